-- The functions that judge terms, blocks and choices, which call each other, meet their contracts. Assumes nothing.
use Prim.Native.Nat.{ℕ, ◌-◌, ◌+◌, ◌<◌}
use native.Mathlib.Omega.{arith}
use native.Mathlib.Numerals.{add-one}
use mathlib.Core.Path.{◌≡◌, sym, ◌∙◌, ap, refl}
use mathlib.Core.Bool.{Bool, true}
use mathlib.Core.List.{List, [], ◌∷◌, ◌++◌}
use mathlib.Core.Option.{some}
use lib.Dec.{eqb}
use Rattle.syntax.specs.declared.kinds.Kind.{Kind}
use Rattle.syntax.specs.declared.kinds.Kind.TheVariants as kind
use Rattle.syntax.specs.Result.{ok, pick}
use Rattle.syntax.specs.Script.{Term}
use Rattle.syntax.specs.Kinds.{wraps_of}
use Rattle.syntax.specs.KindNumbers.{number_in}
use Rattle.syntax.specs.RowParts.{field_at}
use Rattle.syntax.specs.RowTrees.{RowTree, tree_at, IsTree}
use Rattle.syntax.proofs.RowTreeLaws.{has_level, has_room, block_rest, rest_one, rest_first}
use Rattle.syntax.proofs.ChoiceRows.{choice_rows}
use Rattle.variables.specs.declared.table.Row.{Row}
use Rattle.statics.specs.Environment.{Environment}
use Rattle.statics.specs.Uses.{Unfinished, finishing}
use Rattle.statics.specs.Bars.{read_barred}
use Rattle.statics.specs.Rules.{judge_number}
use Rattle.statics.specs.Neat.{Neat}
use Rattle.statics.proofs.NeatBlocks.{neat_enter}
use Rattle.statics.proofs.SameLater.{SameLater}
use Rattle.variables.specs.declared.table.Place.{Place}
use Rattle.variables.specs.Masks.{has}
use Rattle.variables.specs.Table.{environment_of, as_place}
use Rattle.variables.proofs.QuestionLaws.{left_with}
use Rattle.rules.specs.RuleAnswers.{NumberIs}
use Rattle.choices.specs.Kept.{Stays}
use Rattle.uses.specs.RowUses.{later_at, later_of, named_around}
use Rattle.uses.proofs.KindNames.{kind_read}
use Rattle.term_judge.specs.declared.terms.Judged.{Judged}
use Rattle.term_judge.specs.JudgeRows.{told_as, ended, judge_at}
use Rattle.term_judge.proofs.LaterLaws.{block_later, Follows, tree_follows, choice_later, tree_later, terms_follow}
use Rattle.term_judge.proofs.JudgeLaws.{told_ended}
use Rattle.term_judge.proofs.LeafLaws.{leaf_judged, leaf_below_law, tree_known}
use Rattle.term_judge.proofs.AroundLaws.{wrapped}
use Rattle.script_judge.proofs.BlockTerm.{block_refused, block_fine, block_inside}
use Rattle.script_judge.proofs.ScopeLaws.{scope_around}
use Rattle.script_judge.proofs.BlockLaws.{one_judged, next_after, rest_refused, rest_fine, rest_none}
use Rattle.script_judge.proofs.BranchLaws.{first_ready, first_refused, first_neat, first_stays, second_ready, second_start, second_refused, second_neat, second_stays, branches_fine, choice_refused, choice_met}
use Rattle.script_judge.proofs.InwardsLaws.{Outwards, inwards_start, inwards_more, inwards_neat, inwards_tree, inwards_around, inwards_refused, outwards_start, outwards_none, outwards_less, outwards_around, outwards_ready}
use Rattle.script_judge.proofs.TreeStates.{fine_tree}
use Rattle.script_judge.proofs.judge.+terms.Goals as goal
use Rattle.script_judge.proofs.judge.+terms.Goals.{judge_block-After-all_named-inside, judge_branches-In_ok-first, judge_choice-After-index_of-root, judge_choice-After-judge_number, judge_choice-After-unite-inside, judge_inmost-In-Ok, judge_term-At-loop-k, judge_term-At-loop-env}

-- What `judge_block` owes: the terms of a block, then its end.

-- Where what its terms are judged with is known: it is what comes after the block, and around it.
same_block : (t : ℕ) (w : judge_block-After-all_named-inside t) (next : ℕ) → SameLater w.args.script.now.variables (later_at w.args.script.now.variables w.args.script.now.uses.now (has w.all_named-inside.result) next) (later_of w.args.script.now w.args.around.now next)
same_block t w = block_later _ _ _ _ _ _ _ w.all_named-inside.ensures

pub judge_block-index_at-count-requires : goal.judge_block-index_at-count-requires
judge_block-index_at-count-requires t c =
    (has_room _ _ _ _ c.requires.0, omega arith)

pub judge_block-in_scope-before-requires : goal.judge_block-in_scope-before-requires
judge_block-in_scope-before-requires t c =
    c.requires.2.table

pub judge_block-all_named-inside-requires : goal.judge_block-all_named-inside-requires
judge_block-all_named-inside-requires t c =
    (c.requires.4, c.requires.2.table.1)

pub judge_block-overflow_add-i : goal.judge_block-overflow_add-i
judge_block-overflow_add-i t c =
    omega (arith, has_room _ _ _ _ c.requires.0)

pub judge_block-overflow_sub-levels : goal.judge_block-overflow_sub-levels
judge_block-overflow_sub-levels t c =
    omega (arith, has_level _ _ _ _ c.requires.0)

pub judge_block-overflow_add-level : goal.judge_block-overflow_add-level
judge_block-overflow_add-level t c =
    omega (arith, c.requires.2.deep, has_level _ _ _ _ c.requires.0)

pub judge_block-judge_terms-requires : goal.judge_block-judge_terms-requires
judge_block-judge_terms-requires t c =
    let p = c.requires in
    let h = has_level _ _ _ _ p.0 in
    (omega (arith, c.decreases, h), (block_rest _ _ _ _ p.0 p.1 _ c.index_at-count.ensures, record { table = p.2.table; neat = rw (add-one _) (neat_enter p.2.neat); deep = omega (arith, p.2.deep, h); last_uses = p.2.last_uses }))

pub judge_block-returns-in_err-inner : goal.judge_block-returns-in_err-inner
judge_block-returns-in_err-inner t c =
    let p = c.requires in
    (ap (ended _) (left_with _ _ c.from_residual.ensures.1) ∙ block_refused _ _ _ _ p.0 _ (later_of c.args.script.now c.args.around.now) _ (same_block t (goal.at.judge_block-returns-in_err-inner t c).After-all_named-inside) _ p.1 _ c.index_at-count.ensures _ _ (rw c.in_err-inner.was at c.judge_terms.ensures.0), c.judge_terms.ensures.1)

pub judge_block-judge_block_end-verdict-requires : goal.judge_block-judge_block_end-verdict-requires
judge_block-judge_block_end-verdict-requires t c =
    let p = c.requires in
    let inside = block_inside _ _ _ _ p.0 _ (later_of c.args.script.now c.args.around.now) _ (same_block t (goal.at.judge_block-judge_block_end-verdict-requires t c).After-all_named-inside) _ p.1 _ c.index_at-count.ensures _ (told_as c.judge_terms.new.env c.in_ok-inner.inner) (rw c.in_ok-inner.was at c.judge_terms.ensures.0) p.2.neat in
    (c.judge_terms.ensures.1, scope_around _ _ _ _ p.2.table p.2.neat _ inside _ c.in_scope-before.ensures)

pub judge_block-returns : goal.judge_block-returns
judge_block-returns t c =
    let p = c.requires in
    let out = told_ended _ _ _ _ _ c.judged_term.ensures _ (c.judge_block_end-verdict.ensures.0 _) in
    (block_fine _ _ _ _ p.0 _ (later_of c.args.script.now c.args.around.now) _ (same_block t (goal.at.judge_block-returns t c).After-all_named-inside) _ p.1 _ c.index_at-count.ensures _ (told_as c.judge_terms.new.env c.in_ok-inner.inner) (rw c.in_ok-inner.was at c.judge_terms.ensures.0) _ out, c.judge_block_end-verdict.ensures.1)

-- What `judge_branches` owes: the state is kept, and both branches begin in it; what is known joins.

-- Where the first block is judged, and fine.
module _ (t : ℕ) (k : judge_branches-In_ok-first t) where
  abbrev inside : ℕ → RowTree Term
  inside = tree_at k.args.script.now.variables (k.args.levels - 1) k.args.script.now.rows.now

  abbrev Γ : Environment
  Γ = environment_of k.args.env.now

  abbrev later : ℕ → Unfinished
  later = later_at k.args.script.now.variables k.args.script.now.uses.now (has k.args.named)

  follows : Follows k.args.script.now.variables later inside
  follows = tree_follows _ _ _ k.requires.2.last_uses _ _

  abbrev one : Judged
  one = k.in_ok-first.first

  abbrev env₁ : List Row
  env₁ = k.judge_terms.new.env

  judged₁ : ok (told_as env₁ one) ≡ judge_at k.args.script.now.variables (inside (k.args.i + 1)) k.args.level later Γ
  judged₁ = (rw k.in_ok-first.was at k.judge_terms.ensures.0) ∙ one_judged _ _ _ _ _ _ _

  neat₁ : Neat k.args.script.now.variables (environment_of env₁) k.args.level
  neat₁ = first_neat _ _ _ _ k.requires.0 k.requires.1 _ _ follows _ k.requires.2.neat env₁ one judged₁

  stays₁ : Stays Γ (environment_of env₁)
  stays₁ = first_stays _ _ _ _ k.requires.0 k.requires.1 _ _ follows _ k.requires.2.neat env₁ one judged₁

  -- The second block comes after the first.
  after_first : k.args.i + 1 < one.next
  after_first = next_after _ _ _ _ (first_ready _ _ _ _ k.requires.0 k.requires.1).0 _ _ _ (told_as env₁ one) judged₁

pub judge_branches-keep-requires : goal.judge_branches-keep-requires
judge_branches-keep-requires t c =
    let p = c.requires in
    ((p.2.table, (_, p.2.neat)), p.3, p.4)

pub judge_branches-overflow_add-i : goal.judge_branches-overflow_add-i
judge_branches-overflow_add-i t c =
    omega (arith, has_room _ _ _ _ c.requires.0)

pub judge_branches-overflow_sub-levels : goal.judge_branches-overflow_sub-levels
judge_branches-overflow_sub-levels t c =
    omega (arith, has_level _ _ _ _ c.requires.0)

pub judge_branches-judge_terms-requires : goal.judge_branches-judge_terms-requires
judge_branches-judge_terms-requires t c =
    let p = c.requires in
    let first = first_ready _ _ _ _ p.0 p.1 in
    (omega (arith, c.decreases, has_level _ _ _ _ p.0), (rest_one _ _ first.0, record { table = p.2.table; neat = p.2.neat; deep = omega (arith, p.2.deep); last_uses = p.2.last_uses }))

pub judge_branches-returns-in_err-first : goal.judge_branches-returns-in_err-first
judge_branches-returns-in_err-first t c =
    let p = c.requires in
    (ap (ended _) (left_with _ _ c.from_residual.ensures.1) ∙ first_refused _ _ _ _ p.0 p.1 _ _ (tree_follows _ _ _ p.2.last_uses _ _) _ _ ((rw c.in_err-first.was at c.judge_terms.ensures.0) ∙ one_judged _ _ _ _ _ _ _), c.judge_terms.ensures.1)

pub judge_branches-exchange-requires : goal.judge_branches-exchange-requires
judge_branches-exchange-requires t c =
    let p = c.requires in
    ((c.judge_terms.ensures.1, (_, neat₁ t (goal.at.judge_branches-exchange-requires t c).In_ok-first)), omega (arith, p.3, p.2.table.2.most), omega (arith, p.4, c.keep.auto.kept))

pub judge_branches-overflow_sub-levels-2 : goal.judge_branches-overflow_sub-levels-2
judge_branches-overflow_sub-levels-2 t c =
    omega (arith, has_level _ _ _ _ c.requires.0)

pub judge_branches-judge_terms-requires-2 : goal.judge_branches-judge_terms-requires-2
judge_branches-judge_terms-requires-2 t c =
    let p = c.requires in
    let k = (goal.at.judge_branches-judge_terms-requires-2 t c).In_ok-first in
    let exchanged = c.exchange.ensures.0 _ _ p.2.neat c.keep.ensures (stays₁ t k) in
    let second = second_ready _ _ _ _ p.0 p.1 _ _ (follows t k) _ p.2.neat _ _ (judged₁ t k) in
    (omega (arith, c.decreases, has_level _ _ _ _ p.0, after_first t k), (rest_one _ _ second.0, record { table = c.exchange.ensures.1; neat = second_start _ _ _ _ p.0 p.1 _ _ (follows t k) _ p.2.neat _ _ (judged₁ t k) _ exchanged.0; deep = omega (arith, p.2.deep); last_uses = p.2.last_uses }))

pub judge_branches-returns-in_err-second : goal.judge_branches-returns-in_err-second
judge_branches-returns-in_err-second t c =
    let p = c.requires in
    let k = (goal.at.judge_branches-returns-in_err-second t c).In_ok-first in
    let exchanged = c.exchange.ensures.0 _ _ p.2.neat c.keep.ensures (stays₁ t k) in
    (ap (ended _) (left_with _ _ c.from_residual-in_err-second.ensures.1) ∙ second_refused _ _ _ _ p.0 p.1 _ _ (follows t k) _ p.2.neat _ _ (judged₁ t k) _ exchanged.0 _ ((rw c.in_err-second.was at c.judge_terms-2.ensures.0) ∙ one_judged _ _ _ _ _ _ _), c.judge_terms-2.ensures.1)

pub judge_branches-join-requires : goal.judge_branches-join-requires
judge_branches-join-requires t c =
    let p = c.requires in
    let k = (goal.at.judge_branches-join-requires t c).In_ok-first in
    let exchanged = c.exchange.ensures.0 _ _ p.2.neat c.keep.ensures (stays₁ t k) in
    let neat = second_neat _ _ _ _ p.0 p.1 _ _ (follows t k) _ p.2.neat _ _ (judged₁ t k) _ exchanged.0 c.judge_terms-2.new.env c.in_ok-second.second ((rw c.in_ok-second.was at c.judge_terms-2.ensures.0) ∙ one_judged _ _ _ _ _ _ _) in
    ((c.judge_terms-2.ensures.1, (_, neat)), omega (arith, p.3, p.2.table.2.most), omega (arith, p.4, c.keep.auto.kept, c.exchange.auto.kept))

pub judge_branches-returns : goal.judge_branches-returns
judge_branches-returns t c =
    let p = c.requires in
    let k = (goal.at.judge_branches-returns t c).In_ok-first in
    let exchanged = c.exchange.ensures.0 _ _ p.2.neat c.keep.ensures (stays₁ t k) in
    let judged₂ : ok (told_as c.judge_terms-2.new.env c.in_ok-second.second) ≡ judge_at _ _ _ _ _ = (rw c.in_ok-second.was at c.judge_terms-2.ensures.0) ∙ one_judged _ _ _ _ _ _ _ in
    let stays₂ = second_stays _ _ _ _ p.0 p.1 _ _ (follows t k) _ p.2.neat _ _ (judged₁ t k) _ exchanged.0 c.judge_terms-2.new.env c.in_ok-second.second judged₂ in
    let joins = c.join.ensures.0 _ _ _ (neat₁ t k) exchanged.1 (stays₁ t k) stays₂ in
    (branches_fine _ _ _ _ p.0 p.1 _ _ (follows t k) _ p.2.neat _ _ (judged₁ t k) _ exchanged.0 c.judge_terms-2.new.env c.in_ok-second.second judged₂ _ c.join.ensures.2 joins _ c.judge_either.ensures _ c.judged_term.ensures, c.join.ensures.1)

-- What `judge_few_kept` and `judge_many_kept` owe: room for the state that is kept.
pub judge_few_kept-slice_bounds-judge_branches-end : goal.judge_few_kept-slice_bounds-judge_branches-end
judge_few_kept-slice_bounds-judge_branches-end t c = refl

pub judge_few_kept-judge_branches-requires : goal.judge_few_kept-judge_branches-requires
judge_few_kept-judge_branches-requires t c =
    let p = c.requires in
    (omega (arith, c.decreases), (p.0, p.1, p.2, p.3, omega (arith, p.4)))

pub judge_few_kept-returns : goal.judge_few_kept-returns
judge_few_kept-returns t c = c.judge_branches.ensures

pub judge_many_kept-slice_bounds-judge_branches-end : goal.judge_many_kept-slice_bounds-judge_branches-end
judge_many_kept-slice_bounds-judge_branches-end t c = refl

pub judge_many_kept-judge_branches-requires : goal.judge_many_kept-judge_branches-requires
judge_many_kept-judge_branches-requires t c =
    let p = c.requires in
    (omega (arith, c.decreases), (p.0, p.1, p.2, p.3, omega (arith, p.3, p.2.table.1, p.2.table.2.most)))

pub judge_many_kept-returns : goal.judge_many_kept-returns
judge_many_kept-returns t c = c.judge_branches.ensures

-- What `judge_choice` owes: its place, then its blocks.

-- Where its root is known.
module _ (t : ℕ) (x : judge_choice-After-index_of-root t) where
  root_is : x.index_of-root.result ≡ field_at x.args.script.now.rows.now x.args.around.now.end 1
  root_is = x.index_of-root.ensures ∙ ap (λ (p : Place). p.root) x.place_at-place.ensures

  root_below : x.index_of-root.result < x.args.script.now.variables
  root_below = rw root_is (choice_rows _ _ _ _ x.requires.0 x.requires.1).root

-- Where its place is judged: none of the term has finished.
judged : (t : ℕ) (n : judge_choice-After-judge_number t) (u : Term) (next : ℕ) → tree_at n.args.script.now.variables n.args.levels n.args.script.now.rows.now n.args.around.now.end ≡ some (u, next)
    → NumberIs (judge_number n.args.script.now.variables (finishing u ++ later_of n.args.script.now n.args.around.now next) (environment_of n.args.env.now) n.args.around.now.end (as_place n.place_at-place.result)) n.args.around.now.end n.judge_number.result
judged t n u next q =
    let ns = finishing u ++ later_of n.args.script.now n.args.around.now next in
    n.judge_number.ensures n.args.around.now.end ns
    (n.read_barred-barred.ensures ns (tree_later _ _ _ n.requires.2.last_uses (has n.args.around.now.named) _ _ _ _ u next q)
    ∙ ap (read_barred n.args.script.now.variables ns (environment_of n.args.env.now)) n.index_of-root.ensures)

-- Where what its blocks are judged with is known, the answer is that of its blocks.
module _ (t : ℕ) (w : judge_choice-After-unite-inside t) where
  abbrev inside_choice : ℕ → Unfinished
  inside_choice = later_at w.args.script.now.variables w.args.script.now.uses.now (has w.unite-inside.result)

  same_choice : (next : ℕ) → SameLater w.args.script.now.variables (inside_choice next)
      ((field_at w.args.script.now.rows.now w.args.around.now.end 1 ∷ []) ∷ later_of w.args.script.now w.args.around.now next)
  same_choice =
      choice_later _ _ _ _ _ _ _ _ (λ x.
      w.unite-inside.ensures x
      ∙ ap (λ (b : Bool). pick b true (has w.only.result x)) (w.all_named.ensures x)
      ∙ ap (pick (named_around w.args.script.now w.args.around.now x) true)
      (w.only.ensures x ∙ ap (λ (r : ℕ). eqb r x) (w.index_of-root.ensures ∙ ap (λ (p : Place). p.root) w.place_at-place.ensures)))

pub judge_choice-place_at-place-requires : goal.judge_choice-place_at-place-requires
judge_choice-place_at-place-requires t c =
    (has_room _ _ _ _ c.requires.0, omega arith)

pub judge_choice-read_barred-barred-requires : goal.judge_choice-read_barred-barred-requires
judge_choice-read_barred-barred-requires t c =
    let p = c.requires in
    (p.4, p.2.table, p.2.last_uses.long, root_below t (goal.at.judge_choice-read_barred-barred-requires t c).After-index_of-root)

pub judge_choice-judge_number-requires : goal.judge_choice-judge_number-requires
judge_choice-judge_number-requires t c =
    let p = c.requires in
    (p.2.table, (_, p.2.neat))

pub judge_choice-returns-in-Err : goal.judge_choice-returns-in-Err
judge_choice-returns-in-Err t c =
    let p = c.requires in
    (choice_refused _ _ _ _ p.0 p.1 _ c.place_at-place.ensures _ (later_of c.args.script.now c.args.around.now) _ _ (judged t (goal.at.judge_choice-returns-in-Err t c).After-judge_number) _ c.in-Err.is, p.2.table)

pub judge_choice-all_named-requires : goal.judge_choice-all_named-requires
judge_choice-all_named-requires t c =
    let p = c.requires in
    (p.4, p.2.table.1)

pub judge_choice-only-requires : goal.judge_choice-only-requires
judge_choice-only-requires t c =
    omega (arith, root_below t (goal.at.judge_choice-only-requires t c).After-index_of-root, c.requires.2.table.1)

pub judge_choice-numbers_taken-count-requires : goal.judge_choice-numbers_taken-count-requires
judge_choice-numbers_taken-count-requires t c = c.requires.2.table

pub judge_choice-judge_few_kept-requires : goal.judge_choice-judge_few_kept-requires
judge_choice-judge_few_kept-requires t c =
    let p = c.requires in
    (omega (arith, c.decreases), (p.0, p.1, p.2, c.numbers_taken-count.ensures, c.if-count-le-FEW.true))

pub judge_choice-returns-then-count-le-FEW : goal.judge_choice-returns-then-count-le-FEW
judge_choice-returns-then-count-le-FEW t c = (
  choice_met _ _ _ _ c.requires.0 c.requires.1 _ c.place_at-place.ensures _ (later_of c.args.script.now c.args.around.now) _ _ (judged t (goal.at.judge_choice-returns-then-count-le-FEW t c).After-judge_number) (inside_choice t (goal.at.judge_choice-returns-then-count-le-FEW t c).After-unite-inside) (same_choice t (goal.at.judge_choice-returns-then-count-le-FEW t c).After-unite-inside) _ c.in_default.is _ c.judge_few_kept.ensures.0,
  c.judge_few_kept.ensures.1,
)

pub judge_choice-judge_many_kept-requires : goal.judge_choice-judge_many_kept-requires
judge_choice-judge_many_kept-requires t c =
    let p = c.requires in
    (omega (arith, c.decreases), (p.0, p.1, p.2, c.numbers_taken-count.ensures))

pub judge_choice-returns-else-count-le-FEW : goal.judge_choice-returns-else-count-le-FEW
judge_choice-returns-else-count-le-FEW t c = (
  choice_met _ _ _ _ c.requires.0 c.requires.1 _ c.place_at-place.ensures _ (later_of c.args.script.now c.args.around.now) _ _ (judged t (goal.at.judge_choice-returns-else-count-le-FEW t c).After-judge_number) (inside_choice t (goal.at.judge_choice-returns-else-count-le-FEW t c).After-unite-inside) (same_choice t (goal.at.judge_choice-returns-else-count-le-FEW t c).After-unite-inside) _ c.in_default.is _ c.judge_many_kept.ensures.0,
  c.judge_many_kept.ensures.1,
)

-- What `judge_inmost` owes: a block, a choice, or a term with no inner term.

-- Where the kind is known: what the row's number says of it.
module _ (t : ℕ) (k : judge_inmost-In-Ok t) where
  kind_number : number_in k.in-Ok.kind ≡ field_at k.args.script.now.rows.now k.args.around.now.end 0
  kind_number =
      let read : number_in k.in-Ok.kind ≡ k.field_at.result = k.in-Ok.ensures in
      read ∙ k.field_at.ensures

  number_kind : (j : Kind) → k.in-Ok.kind ≡ j → field_at k.args.script.now.rows.now k.args.around.now.end 0 ≡ number_in j
  number_kind j e = sym kind_number ∙ ap number_in e

pub judge_inmost-field_at-requires : goal.judge_inmost-field_at-requires
judge_inmost-field_at-requires t c = (has_room _ _ _ _ c.requires.0, omega arith)

pub judge_inmost-unreachable-requires : goal.judge_inmost-unreachable-requires
judge_inmost-unreachable-requires t c = c.in_default.ensures (rw c.field_at.ensures (tree_known _ _ _ _ c.requires.0))

pub judge_inmost-judge_block-requires : goal.judge_inmost-judge_block-requires
judge_inmost-judge_block-requires t c =
    let p = c.requires in
    (omega (arith, c.decreases), (p.0, number_kind t (goal.at.judge_inmost-judge_block-requires t c).In-Ok kind.Block c.in-Block.is, p.2, p.3, p.4))

pub judge_inmost-returns-in-Block : goal.judge_inmost-returns-in-Block
judge_inmost-returns-in-Block t c = c.judge_block.ensures

pub judge_inmost-judge_choice-requires : goal.judge_inmost-judge_choice-requires
judge_inmost-judge_choice-requires t c =
    let p = c.requires in
    (omega (arith, c.decreases), (p.0, number_kind t (goal.at.judge_inmost-judge_choice-requires t c).In-Ok kind.Choice c.in-Choice.is, p.2, p.3, p.4))

pub judge_inmost-returns-in-Choice : goal.judge_inmost-returns-in-Choice
judge_inmost-returns-in-Choice t c = c.judge_choice.ensures

pub judge_inmost-place_at-first-requires : goal.judge_inmost-place_at-first-requires
judge_inmost-place_at-first-requires t c =
    (has_room _ _ _ _ c.requires.0, omega arith)

pub judge_inmost-place_at-second-requires : goal.judge_inmost-place_at-second-requires
judge_inmost-place_at-second-requires t c =
    (has_room _ _ _ _ c.requires.0, omega arith)

pub judge_inmost-judge_leaf-verdict-requires : goal.judge_inmost-judge_leaf-verdict-requires
judge_inmost-judge_leaf-verdict-requires t c =
    let p = c.requires in
    ((p.2.table, (_, p.2.neat)), p.2.last_uses.long, p.4, λ x h. leaf_below_law _ _ _ _ p.0 _ (kind_number t (goal.at.judge_inmost-judge_leaf-verdict-requires t c).In-Ok) _ _ c.place_at-first.ensures c.place_at-second.ensures x (rw (kind_read c.in-Ok.kind (sym c.number.ensures)) at h))

pub judge_inmost-overflow_add-i : goal.judge_inmost-overflow_add-i
judge_inmost-overflow_add-i t c =
    omega (arith, has_room _ _ _ _ c.requires.0)

pub judge_inmost-returns-in_default-kind : goal.judge_inmost-returns-in_default-kind
judge_inmost-returns-in_default-kind t c =
    let p = c.requires in (
      leaf_judged _ _ _ _ p.0 _ (later_of c.args.script.now c.args.around.now) _ c.in-Ok.kind (kind_number t (goal.at.judge_inmost-returns-in_default-kind t c).In-Ok) p.1 c.in_default-kind.not-Block c.in_default-kind.not-Choice _ _ c.place_at-first.ensures c.place_at-second.ensures _
          (λ u q. told_ended _ _ _ _ _ c.judged_term.ensures _ (rw (← kind_read c.in-Ok.kind (sym c.number.ensures)) (c.judge_leaf-verdict.ensures.0 _ (tree_later _ _ _ p.2.last_uses (has c.args.around.now.named) _ _ _ _ u _ q)))),
      c.judge_leaf-verdict.ensures.1,
    )

-- What `judge_term` owes: the loop inwards, the innermost term, the loop outwards.

-- Some terms in, inwards: the next is a term.
tree : (t : ℕ) (l : judge_term-At-loop-env t) → IsTree (tree_at l.args.script.now.variables (l.args.levels - l.loop-env.count) l.args.script.now.rows.now (l.args.i + l.loop-env.count))
tree t l = inwards_tree _ _ _ _ l.requires.0 _ _ _ l.loop-env.invariant.2

-- Where the innermost is judged, and some terms in from there, outwards.
outwards : (t : ℕ) (o : judge_term-At-loop-k t)
    → Outwards o.args.script.now.variables o.args.levels o.args.script.now.rows.now o.args.i (later_at o.args.script.now.variables o.args.script.now.uses.now (has o.args.named)) o.args.level (environment_of o.args.env.now) o.loop-k.k (ended o.loop-k.env o.loop-k.judged)
outwards t o = o.loop-k.invariant.2 _ (outwards_start _ _ _ _ _ _ _ _ _ o.loop-env.invariant.2 _ o.judge_inmost-judged.ensures.0)

pub judge_term-loop-env-init : goal.judge_term-loop-env-init
judge_term-loop-env-init t c = (refl, c.requires.1.table, inwards_start _ _ _)

pub judge_term-overflow_add-i : goal.judge_term-overflow_add-i
judge_term-overflow_add-i t c = omega (arith, has_room _ _ _ _ (tree t (goal.at.judge_term-overflow_add-i t c).At-loop-env))

pub judge_term-field_at-requires : goal.judge_term-field_at-requires
judge_term-field_at-requires t c = (has_room _ _ _ _ (tree t (goal.at.judge_term-field_at-requires t c).At-loop-env), omega arith)

pub judge_term-overflow_add-i-in-loop-env : goal.judge_term-overflow_add-i-in-loop-env
judge_term-overflow_add-i-in-loop-env t c = omega (arith, has_room _ _ _ _ (tree t (goal.at.judge_term-overflow_add-i-in-loop-env t c).At-loop-env))

pub judge_term-judge_before-requires : goal.judge_term-judge_before-requires
judge_term-judge_before-requires t c =
    (wrapped _ _ _ _ (tree t (goal.at.judge_term-judge_before-requires t c).At-loop-env) (sym (c.wraps.ensures ∙ ap wraps_of c.field_at.ensures) ∙ c.loop-env-test.true), c.loop-env.invariant.1)

pub judge_term-returns-in_err-judge_before : goal.judge_term-returns-in_err-judge_before
judge_term-returns-in_err-judge_before t c =
    let begun = rw c.in_err-judge_before.was at c.judge_before.ensures.0 in
    (ap (ended _) (left_with _ _ c.from_residual.ensures.1) ∙ inwards_refused _ _ _ _ _ c.requires.0 _ _ _ _ c.loop-env.invariant.2 (sym (c.wraps.ensures ∙ ap wraps_of c.field_at.ensures) ∙ c.loop-env-test.true) _ (sym begun), c.judge_before.ensures.1)

pub judge_term-overflow_add-count : goal.judge_term-overflow_add-count
judge_term-overflow_add-count t c = omega (arith, has_room _ _ _ _ (tree t (goal.at.judge_term-overflow_add-count t c).At-loop-env))

pub judge_term-loop-env-smaller : goal.judge_term-loop-env-smaller
judge_term-loop-env-smaller t c = omega (arith, has_level _ _ _ _ (tree t (goal.at.judge_term-loop-env-smaller t c).At-loop-env))

pub judge_term-loop-env-preserved : goal.judge_term-loop-env-preserved
judge_term-loop-env-preserved t c =
    let I = c.loop-env.invariant in
    let begun = rw c.in_ok-judge_before.was at c.judge_before.ensures.0 in
    (c.judge_before.auto.env ∙ I.0, c.judge_before.ensures.1, inwards_more _ _ _ _ _ I.2 (sym (c.wraps.ensures ∙ ap wraps_of c.field_at.ensures) ∙ c.loop-env-test.true) _ (sym begun))

pub judge_term-overflow_add-around : goal.judge_term-overflow_add-around
judge_term-overflow_add-around t c = omega (arith, has_room _ _ _ _ (tree t (goal.at.judge_term-overflow_add-around t c).At-loop-env))

pub judge_term-overflow_sub-levels : goal.judge_term-overflow_sub-levels
judge_term-overflow_sub-levels t c = omega (arith, has_level _ _ _ _ (tree t (goal.at.judge_term-overflow_sub-levels t c).At-loop-env))

pub judge_term-judge_inmost-judged-requires : goal.judge_term-judge_inmost-judged-requires
judge_term-judge_inmost-judged-requires t c =
    let p = c.requires in
    (omega (arith, c.decreases), (tree t (goal.at.judge_term-judge_inmost-judged-requires t c).At-loop-env, sym (c.wraps.ensures ∙ ap wraps_of c.field_at.ensures) ∙ c.loop-env-test.false, record { table = c.loop-env.invariant.1; neat = inwards_neat _ _ _ _ _ p.1.neat _ _ c.loop-env.invariant.2; deep = omega (arith, p.1.deep); last_uses = p.1.last_uses }, omega arith, inwards_around _ _ _ _ p.0 _ _ _ c.loop-env.invariant.2))

pub judge_term-loop-k-init : goal.judge_term-loop-k-init
judge_term-loop-k-init t c = (refl, c.judge_inmost-judged.ensures.1, λ Γ O. O)

pub judge_term-overflow_add-around-in-loop-k : goal.judge_term-overflow_add-around-in-loop-k
judge_term-overflow_add-around-in-loop-k t c =
    omega (arith, c.loop-k.auto.k, has_room _ _ _ _ (tree t (goal.at.judge_term-overflow_add-around-in-loop-k t c).At-loop-env))

pub judge_term-judge_after-judged-requires : goal.judge_term-judge_after-judged-requires
judge_term-judge_after-judged-requires t c =
    let p = c.requires in
    let out = outwards t (goal.at.judge_term-judge_after-judged-requires t c).At-loop-k in
    (omega arith, outwards_around _ _ _ _ p.0 _ _ _ _ (omega arith) out.1, c.loop-k.invariant.1, p.1.last_uses.long, outwards_ready _ _ _ _ _ p.0 _ _ _ _ (omega arith) p.1.neat _ _ out)

pub judge_term-loop-k-preserved : goal.judge_term-loop-k-preserved
judge_term-loop-k-preserved t c =
    (c.judge_after-judged.auto.env ∙ c.loop-k.invariant.0, c.judge_after-judged.ensures.1, λ Γ O. outwards_less _ _ _ _ _ c.requires.0 _ _ _ _ (omega arith) _ (c.loop-k.invariant.2 Γ O) _ c.judge_after-judged.ensures.0)

pub judge_term-returns : goal.judge_term-returns
judge_term-returns t c =
    (outwards_none _ _ _ _ _ c.requires.0 _ _ _ _ c.loop-k-test.false (outwards t (goal.at.judge_term-returns t c).At-loop-k), c.loop-k.invariant.1)

-- What `judge_terms` owes: each term of a block in turn.

pub judge_terms-loop-init : goal.judge_terms-loop-init
judge_terms-loop-init t c =
    let p = c.requires in
    let all : c.args.count - 0 ≡ c.args.count = omega arith in
    (rw all p.0, refl, p.1, rw all, omega arith)

pub judge_terms-judge_term-requires : goal.judge_terms-judge_term-requires
judge_terms-judge_term-requires t c =
    let v = c.loop.invariant in
    (omega (arith, c.decreases, v.4), (rest_first _ _ _ (omega arith) v.0, v.2))

pub judge_terms-returns-in_err-judged : goal.judge_terms-returns-in_err-judged
judge_terms-returns-in_err-judged t c =
    let v = c.loop.invariant in
    let left : 0 < c.args.count - c.loop.counter = omega arith in
    (ap (ended _) (left_with _ _ c.from_residual.ensures.1) ∙ rest_refused _ _ _ _ (terms_follow _ _ _ v.2.last_uses _ _) _ _ left v.0 _ _ _ (rw c.in_err-judged.was at c.judge_term.ensures.0) ∙ v.3, c.judge_term.ensures.1)

pub judge_terms-loop-preserved : goal.judge_terms-loop-preserved
judge_terms-loop-preserved t c =
    let v = c.loop.invariant in
    let e = rw c.in_ok-judged.was at c.judge_term.ensures.0 in
    let left : 0 < c.args.count - c.loop.counter = omega arith in
    let rest = rest_fine _ _ _ _ (terms_follow _ _ _ v.2.last_uses _ _) _ _ left v.0 _ _ (told_as c.judge_term.new.env c.in_ok-judged.judged) e (c.args.count - (c.loop.counter + 1)) (omega arith) in
    let tree = rest_first _ _ _ left v.0 in
    let after = fine_tree _ _ _ _ v.2.neat _ _ _ _ tree e in
    (rest.0, c.judge_term.auto.env ∙ v.1, record { table = c.judge_term.ensures.1; neat = after.neat; deep = v.2.deep; last_uses = v.2.last_uses }, rest.1 ∙ v.3, omega (arith, v.4, next_after _ _ _ _ tree _ _ _ _ e))

pub judge_terms-returns : goal.judge_terms-returns
judge_terms-returns t c =
    let v = c.loop.invariant in
    (rest_none _ _ _ _ _ (told_as c.loop.env c.loop.judged) (omega arith) ∙ v.3, v.2.table)
