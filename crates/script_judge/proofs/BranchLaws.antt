-- The two blocks of a choice: what is known of the table after each, and the answer from theirs.
use Prim.Native.Nat.{ℕ, suc, ◌+◌, ◌-◌}
use mathlib.Core.Path.{◌≡◌, refl, sym, ap, ◌∙◌, subst}
use mathlib.Core.Option.{some}
use mathlib.Core.List.{List, [], ◌∷◌, ◌++◌, append_assoc}
use lib.ListN.{length, drop}
use Rattle.std.specs.Prelude as prelude
use Rattle.syntax.specs.declared.refusals.Reason.{Reason}
use Rattle.syntax.specs.declared.refusals.Refusal as refusals
use Rattle.syntax.specs.Refusals.{number_of}
use Rattle.syntax.specs.Result.{ok, err, Refusal, ◌>>=◌}
use Rattle.syntax.specs.Script.{Term, block, choice}
use Rattle.syntax.specs.Measures.{sizes}
use Rattle.syntax.specs.RowParts.{field_at}
use Rattle.syntax.specs.RowTrees.{place_at, RowTree, IsTree, block_at, tree_at}
use Rattle.variables.specs.declared.table.Row.{Row}
use Rattle.variables.specs.declared.table.Place.{Place}
use Rattle.term_judge.specs.declared.terms.Judged as code
use Rattle.statics.specs.Links.{Link}
use Rattle.statics.specs.Environment.{Environment}
use Rattle.statics.specs.Choice.{carried, joined}
use Rattle.statics.specs.Uses.{Unfinished, naming, finishing, finishing_all}
use Rattle.statics.specs.Rules.{Judged, Out, judge_number, judge_choice}
use Rattle.statics.specs.Judge.{judge}
use Rattle.statics.specs.Neat.{Neat, NeatValue, LetsBelow, LetsBelowAll}
use Rattle.statics.specs.Met.{judge_branch}
use Rattle.variables.specs.Table.{environment_of, SameLinks, as_place}
use Rattle.variables.specs.Verdicts.{as_value, Verdict, answered, Joins}
use Rattle.rules.specs.RuleAnswers.{NumberIs}
use Rattle.choices.specs.Kept.{Stays}
use Rattle.uses.specs.RowPlaces.{row_place}
use Rattle.term_judge.specs.JudgeRows.{Ended, at_row, told_as, ended, judged_at, judge_at, judge_branches, branches_at}
use Rattle.syntax.proofs.ChoiceRows.{tree_some, BlockRows, ChoiceRows, choice_rows}
use Rattle.statics.proofs.Answers.{same_steps}
use Rattle.statics.proofs.Slots.{live_carried}
use Rattle.statics.proofs.Finishing.{left_after_block}
use Rattle.statics.proofs.SameLater.{SameLater, same_append, judged_alike}
use Rattle.term_judge.proofs.TreeNames.{branch_is}
use Rattle.term_judge.proofs.LaterLaws.{Follows}
use Rattle.term_judge.proofs.JudgeLaws.{told_ended, refused_is, fine_is}
use Rattle.statics.proofs.NeatSteps.{Fine, Lived}
use Rattle.statics.proofs.NeatBlocks.{neat_carried}
use Rattle.statics.proofs.NeatJudged as neat
use Rattle.script_judge.proofs.TreeLets.{tree_lets}
use Rattle.script_judge.proofs.ChoiceValues.{live_long, AsLong, same_value, links_value}

-- ---- one block

-- The block at row j has been judged from Γ, and accepted, with that outcome; ns is what comes after it.
pub record Accepted (nv l : ℕ) (rows : List ℕ) (j : ℕ) (here : BlockRows nv l rows j) (level : ℕ) (ns : Unfinished) (Γ : Environment) (o : Out × ℕ) : Type 0 where
  pub stands : o.1 ≡ here.end
  pub judged : judge_branch nv here.terms j level ((finishing_all here.terms ++ naming []) ++ ns) Γ ≡ ok o.0
  pub lets : LetsBelowAll nv here.terms

module _ (nv l : ℕ) (rows : List ℕ) (j : ℕ) (here : BlockRows nv l rows j) (level : ℕ) (later : ℕ → Unfinished) (Γ : Environment) (ns : Unfinished) (same : SameLater nv (later here.end) ns) where
  abbrev answer : Judged Out
  answer = judge_branch nv here.terms j level ((finishing_all here.terms ++ naming []) ++ ns) Γ

  block_ended : (E : Ended) → E ≡ judge_at nv (tree_at nv l rows j) level later Γ → E ≡ at_row here.end answer
  unfolding judged_at judge finishing
  block_ended E e = rw here.is at e ∙ ap (at_row here.end) (judged_alike nv (block j here.terms) level (later here.end) ns Γ same)

  block_lets : LetsBelowAll nv here.terms
  unfolding LetsBelow
  block_lets = rw here.is at (tree_lets nv l rows j)

  pub accepted : (o : Out × ℕ) → ok o ≡ judge_at nv (tree_at nv l rows j) level later Γ → Accepted nv l rows j here level ns Γ o
  accepted o e =
      let z = fine_is answer here.end o (block_ended _ e) in
      record { stands = z.1; judged = z.0; lets = block_lets }

  not_accepted : (x : Refusal) → err x ≡ judge_at nv (tree_at nv l rows j) level later Γ → answer ≡ err x
  not_accepted x e = refused_is answer here.end x (block_ended _ e)

module _ {nv l : ℕ} {rows : List ℕ} {j : ℕ} {here : BlockRows nv l rows j} {level : ℕ} {ns : Unfinished} {Γ : Environment} {o : Out × ℕ} (N : Neat nv Γ level) (A : Accepted nv l rows j here level ns Γ o) where
  both : Fine nv Γ o.0.0 o.0.1 level × Lived Γ o.0.0
  both = neat.branch nv j here.terms (neat.neat_after_all nv here.terms) level ((finishing_all here.terms ++ naming []) ++ ns) Γ o.0 A.lets A.judged N

  accepted_neat : Neat nv o.0.0 level
  accepted_neat = both.0.neat

  accepted_value : NeatValue o.0.0 level o.0.1
  accepted_value = both.0.value

  accepted_stays : Stays Γ o.0.0
  accepted_stays = record { lives = both.0.lives; lived = λ x w q. (let k = both.1 x w q in (k.0, k.1)); taken = both.0.taken }

-- ---- both

-- What the first block's value borrows has as many links after the second.
as_long : (Γ : Environment) (env₁ env₂ : List Row) → Stays Γ (environment_of env₁) → Stays (carried Γ (environment_of env₁)) (environment_of env₂) → AsLong env₁ env₂
unfolding carried
as_long Γ env₁ env₂ S₁ S₂ y u e =
    let k = S₁.lived y u e in
    let a = S₁.lives y k.0 k.1 in
    let b = S₂.lives y k.0 (live_carried (Γ y) (environment_of env₁ y) k.0 k.1) in
    live_long env₂ y b.0 b.1 ∙ ap (λ (ks : List Link). length ks) (b.2 ∙ sym a.2) ∙ sym (live_long env₁ y a.0 a.1)

module _ (nv l : ℕ) (rows : List ℕ) (i : ℕ) (good : IsTree (tree_at nv l rows i)) (kind : field_at rows i 0 ≡ 12) where
  abbrev inside : ℕ → RowTree Term
  inside = tree_at nv (l - 1) rows

  abbrev both_blocks : ChoiceRows nv l rows i
  both_blocks = choice_rows nv l rows i good kind

  first_is : block_at inside rows (i + 1) ≡ some ((i + 1, both_blocks.first.terms), both_blocks.first.end)
  first_is = branch_is nv (l - 1) rows (i + 1) both_blocks.first

  second_is : block_at inside rows both_blocks.first.end ≡ some ((both_blocks.first.end, both_blocks.second.terms), both_blocks.second.end)
  second_is = branch_is nv (l - 1) rows both_blocks.first.end both_blocks.second

  pub first_ready : IsTree (inside (i + 1)) × (field_at rows (i + 1) 0 ≡ 11)
  first_ready = (tree_some _ both_blocks.first.is, both_blocks.first.kind)

  module _ (level : ℕ) (later : ℕ → Unfinished) (follows : Follows nv later inside) (Γ : Environment) where
    -- What comes after the second block, and after the first: the second block, then that.
    abbrev after_both : Unfinished
    after_both = later both_blocks.second.end

    abbrev after_first : Unfinished
    after_first = (finishing_all both_blocks.second.terms ++ naming []) ++ after_both

    second_next : SameLater nv (later both_blocks.first.end) after_first
    unfolding finishing
    second_next = follows both_blocks.first.end (block both_blocks.first.end both_blocks.second.terms) both_blocks.second.end both_blocks.second.is

    pub first_refused : (x : Refusal) → err x ≡ judge_at nv (inside (i + 1)) level later Γ → err x ≡ branches_at nv l rows i level later Γ
    unfolding judged_at judge_branches ◌>>=◌
    first_refused x e = rw (first_is, second_is, not_accepted nv (l - 1) rows (i + 1) both_blocks.first level later Γ after_first second_next x e)

    module _ (N : Neat nv Γ level) (env₁ : List Row) (one : code.Judged) (e₁ : ok (told_as env₁ one) ≡ judge_at nv (inside (i + 1)) level later Γ) where
      first : Accepted nv (l - 1) rows (i + 1) both_blocks.first level after_first Γ (told_as env₁ one)
      first = accepted nv (l - 1) rows (i + 1) both_blocks.first level later Γ after_first second_next (told_as env₁ one) e₁

      pub first_neat : Neat nv (environment_of env₁) level
      first_neat = accepted_neat N first

      pub first_stays : Stays Γ (environment_of env₁)
      first_stays = accepted_stays N first

      -- The second block is where the judge stands after the first.
      pub second_ready : IsTree (inside one.next) × (field_at rows one.next 0 ≡ 11)
      second_ready = rw first.stands (tree_some _ both_blocks.second.is, both_blocks.second.kind)

      -- The second block is judged from what is carried into it.
      module _ (Γ₂ : Environment) (from : Γ₂ ≡ carried Γ (environment_of env₁)) where
        pub second_start : Neat nv Γ₂ level
        second_start = subst (λ (Δ : Environment). Neat nv Δ level) (sym from) (neat_carried (environment_of env₁) N)

        judged₂ : (E : Ended) → E ≡ judge_at nv (inside one.next) level later Γ₂ → E ≡ judge_at nv (inside both_blocks.first.end) level later Γ₂
        judged₂ E e = rw first.stands at e

        pub second_refused : (x : Refusal) → err x ≡ judge_at nv (inside one.next) level later Γ₂ → err x ≡ branches_at nv l rows i level later Γ
        unfolding judged_at judge_branches ◌>>=◌
        second_refused x e =
            let z = not_accepted nv (l - 1) rows both_blocks.first.end both_blocks.second level later Γ₂ after_both (λ y b. refl) x (judged₂ _ e) in
            rw (first_is, second_is, first.judged, ← from, z)

        module _ (env₂ : List Row) (two : code.Judged) (e₂ : ok (told_as env₂ two) ≡ judge_at nv (inside one.next) level later Γ₂) where
          second : Accepted nv (l - 1) rows both_blocks.first.end both_blocks.second level after_both Γ₂ (told_as env₂ two)
          second = accepted nv (l - 1) rows both_blocks.first.end both_blocks.second level later Γ₂ after_both (λ y b. refl) (told_as env₂ two) (judged₂ _ e₂)

          pub second_neat : Neat nv (environment_of env₂) level
          second_neat = accepted_neat second_start second

          pub second_stays : Stays (carried Γ (environment_of env₁)) (environment_of env₂)
          second_stays = subst (λ (Δ : Environment). Stays Δ (environment_of env₂)) from (accepted_stays second_start second)

          module _ (env₃ : List Row) (same : SameLinks env₂ env₃) where
            first_value : as_value env₃ one.value ≡ as_value env₁ one.value
            first_value = links_value env₂ env₃ same one.value ∙ same_value env₁ env₂ (as_long Γ env₁ env₂ first_stays second_stays) one.value level (accepted_value N first)

            pub branches_fine : environment_of env₃ ≡ joined Γ (environment_of env₁) (environment_of env₂) → (t : Verdict) → Joins one.value two.value t → (out : prelude.Result code.Judged refusals.Refusal) → ((env : List Row) → ended env out ≡ at_row two.next (answered env i t)) → ended env₃ out ≡ branches_at nv l rows i level later Γ
            unfolding judged_at judge_branches judge_choice ◌>>=◌
            branches_fine j t J out E = told_ended _ _ _ _ _ E env₃ (J env₃ i) ∙ rw (second.stands, first_is, second_is, first.judged, ← from, second.judged, first_value, links_value env₂ env₃ same two.value, j)

  -- ---- the choice

  abbrev chosen : Term
  chosen = choice i (place_at rows i 1) (i + 1) both_blocks.first.terms both_blocks.first.end both_blocks.second.terms

  -- Its place is judged first; none of the term has finished then.
  module _ (p : Place) (is : p ≡ row_place rows i 1) (level : ℕ) (later : ℕ → Unfinished) (Γ : Environment) (r : prelude.Result (Unit {0}) Reason)
      (e : (t : Term) (next : ℕ) → tree_at nv l rows i ≡ some (t, next) → NumberIs (judge_number nv (finishing t ++ later next) Γ i (as_place p)) i r) where
    abbrev left : Unfinished
    left = finishing chosen ++ later both_blocks.second.end

    place_judged : NumberIs (judge_number nv left Γ i (place_at rows i 1)) i r
    place_judged = rw is at (e chosen both_blocks.second.end both_blocks.is)

    pub choice_refused : (n : Reason) → r ≡ prelude.Err n → err (number_of n, i) ≡ judge_at nv (tree_at nv l rows i) level later Γ
    unfolding judged_at judge ◌>>=◌
    choice_refused n q =
        let z : judge_number nv left Γ i (place_at rows i 1) ≡ err (number_of n, i) = rw q at place_judged in
        rw (both_blocks.is, z)

    -- The blocks are judged with `inner` after them, which has the choice in it.
    module _ (inner : ℕ → Unfinished) (same : (next : ℕ) → SameLater nv (inner next) ((field_at rows i 1 ∷ []) ∷ later next)) where
      blocks_judged : judge_number nv left Γ i (place_at rows i 1) ≡ ok tt
          → judge_branches nv level Γ i ((i + 1, both_blocks.first.terms), (both_blocks.first.end, both_blocks.second.terms)) (inner both_blocks.second.end) ≡ judge nv chosen level left Γ
      unfolding judge finishing judge_branches ◌>>=◌
      blocks_judged z =
          let us = both_blocks.first.terms in
          let vs = both_blocks.second.terms in
          let j = both_blocks.first.end in
          let first = finishing_all us ++ naming [] in
          let second = finishing_all vs ++ naming [] in
          let own = naming (field_at rows i 1 ∷ []) in
          let ns = later both_blocks.second.end in
          let within = inner both_blocks.second.end in
          let S = same both_blocks.second.end in
          let f = append_assoc first (second ++ own) ns in
          let g = append_assoc second own ns in
          let d = left_after_block us left ((second ++ own) ++ ns) f ∙ g in
          rw z (same_steps (judge_branch nv us (i + 1) level (first ++ (second ++ within)) Γ) (judge_branch nv us (i + 1) level left Γ) _ _
          (judged_alike nv (block (i + 1) us) level (second ++ within) (second ++ (own ++ ns)) Γ (same_append nv second within (own ++ ns) S)
          ∙ ap (λ (ks : Unfinished). judge_branch nv us (i + 1) level ks Γ) (sym (f ∙ ap (λ (ks : Unfinished). first ++ ks) g)))
          (λ a q. same_steps (judge_branch nv vs j level (second ++ within) (carried Γ a.0)) (judge_branch nv vs j level (drop (suc (sizes us)) left) (carried Γ a.0)) _ _
          (judged_alike nv (block j vs) level within (own ++ ns) (carried Γ a.0) S ∙ ap (λ (ks : Unfinished). judge_branch nv vs j level ks (carried Γ a.0)) (sym d))
          (λ b q. refl)))

      pub choice_met : (u : Unit {0}) → r ≡ prelude.Ok u → (E : Ended) → E ≡ branches_at nv l rows i level inner Γ → E ≡ judge_at nv (tree_at nv l rows i) level later Γ
      unfolding judged_at
      choice_met u q E w =
          let z : judge_number nv left Γ i (place_at rows i 1) ≡ ok tt = rw q at place_judged in
          w ∙ rw (first_is, second_is, both_blocks.is) (ap (at_row both_blocks.second.end) (blocks_judged z))
