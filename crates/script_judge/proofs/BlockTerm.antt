-- A block in the term judge: its answer from what the calls ensure.
use Prim.Native.Nat.{ℕ, zero, suc, ◌+◌, ◌-◌}
use native.Mathlib.Numerals.{add-one}
use mathlib.Core.Path.{◌≡◌, refl, ◌∙◌}
use mathlib.Core.Option.{Option, none, some}
use mathlib.Core.List.{List, [], ◌++◌, append_assoc}
use Rattle.syntax.specs.Script.{Term, Terms, block}
use Rattle.syntax.specs.Result.{ok, err, Refusal, ◌>>=◌}
use Rattle.syntax.specs.RowParts.{field_at}
use Rattle.syntax.specs.RowTrees.{RowTree, IsTree, around, terms_at, tree_at}
use Rattle.syntax.proofs.RowTreeLaws.{block_is, block_inner}
use Rattle.statics.specs.Environment.{Environment, Ty}
use Rattle.statics.specs.Uses.{Unfinished, naming, finishing, finishing_all, names, named_later}
use Rattle.statics.specs.Rules.{Out, judge_block_end}
use Rattle.statics.specs.Judge.{judge, judges}
use Rattle.statics.specs.Neat.{Neat, LetsBelow}
use Rattle.term_judge.specs.JudgeRows.{Ended, at_row, judged_at, judge_at, judges_at, rest_at}
use Rattle.statics.proofs.SameLater.{SameLater, all_judged_alike}
use Rattle.term_judge.proofs.JudgeLaws.{fine_is, inner_refused, inner_fine}
use Rattle.statics.proofs.NeatSteps.{Fine}
use Rattle.statics.proofs.NeatBlocks.{neat_enter}
use Rattle.statics.proofs.NeatJudged.{NeatAfterAll, neat_after_all}
use Rattle.script_judge.proofs.TreeLets.{Lets, tree_lets}

-- The terms of a block, one at least: whatever the value before them.
all_terms : (nv : ℕ) (f : ℕ → RowTree Term) (level : ℕ) (later : ℕ → Unfinished) (n i : ℕ) (o : Option Ty) (Γ : Environment) → IsTree (terms_at f n i) → rest_at nv f level later n i o Γ ≡ judges_at nv (terms_at f n i) level later Γ
unfolding rest_at terms_at
all_terms nv f level later zero i o Γ h = absurd h
all_terms nv f level later (suc n) i o Γ h = refl

-- Its terms are judged with `inside` after them: the block names nothing, so `inside` names what is named after the block.
module _ (nv l : ℕ) (rows : List ℕ) (i : ℕ) (good : IsTree (tree_at nv l rows i)) (level : ℕ) (later inside : ℕ → Unfinished) (same : (next : ℕ) → SameLater nv (inside next) (later next)) (Γ : Environment) where
  block_rule : (ts : Terms) (j : ℕ) → judge nv (block i ts) level (finishing (block i ts) ++ later j) Γ ≡ (judges nv ts (suc level) (finishing_all ts ++ inside j) Γ >>= λ o. judge_block_end nv level o.0 i o.1)
  unfolding judge finishing names named_later
  block_rule ts j = rw (append_assoc (finishing_all ts) (naming []) (later j), all_judged_alike nv ts (suc level) (inside j) (naming [] ++ later j) Γ (same j))

  -- Block, with its count n.
  module _ (k : field_at rows i 0 ≡ 11) (n : ℕ) (en : n ≡ field_at rows i 1) (v : Option Ty) where
    abbrev terms : RowTree Terms
    terms = terms_at (tree_at nv (l - 1) rows) (field_at rows i 1) (i + 1)

    block_judged : (E : Ended) → E ≡ rest_at nv (tree_at nv (l - 1) rows) (level + 1) inside n (i + 1) v Γ → E ≡ judges_at nv terms (suc level) inside Γ
    block_judged E e = rw (en, add-one level) at e ∙ all_terms nv (tree_at nv (l - 1) rows) (suc level) inside (field_at rows i 1) (i + 1) v Γ (block_inner nv l rows i good k)

    pub block_refused : (x : Refusal) → err x ≡ rest_at nv (tree_at nv (l - 1) rows) (level + 1) inside n (i + 1) v Γ → err x ≡ judge_at nv (tree_at nv l rows i) level later Γ
    block_refused x e =
        rw (block_is nv l rows i good k) (inner_refused (block i) (λ ts j. judges nv ts (suc level) (finishing_all ts ++ inside j) Γ) (λ t j. judge nv t level (finishing t ++ later j) Γ) (λ o. judge_block_end nv level o.0 i o.1) block_rule terms (block_inner nv l rows i good k) x (block_judged _ e))

    module _ (o : Out × ℕ) (e : ok o ≡ rest_at nv (tree_at nv (l - 1) rows) (level + 1) inside n (i + 1) v Γ) where
      pub block_fine : (E : Ended) → E ≡ at_row o.1 (judge_block_end nv level o.0.0 i o.0.1) → E ≡ judge_at nv (tree_at nv l rows i) level later Γ
      block_fine E w =
          rw (block_is nv l rows i good k) (inner_fine (block i) (λ ts j. judges nv ts (suc level) (finishing_all ts ++ inside j) Γ) (λ t j. judge nv t level (finishing t ++ later j) Γ) (λ o. judge_block_end nv level o.0 i o.1) block_rule terms (block_inner nv l rows i good k) o (block_judged _ e) E w)

      -- What the terms of the block leave, before its end.
      pub block_inside : Neat nv Γ level → Fine nv Γ o.0.0 o.0.1 (suc level)
      unfolding judged_at LetsBelow NeatAfterAll
      block_inside N = go terms (block_inner nv l rows i good k) (rw (block_is nv l rows i good k) at (tree_lets nv l rows i)) (block_judged _ e)
        where
          go : (ds : RowTree Terms) → IsTree ds → Lets nv (around (block i) ds) → ok o ≡ judges_at nv ds (suc level) inside Γ → Fine nv Γ o.0.0 o.0.1 (suc level)
          go none h w z = absurd h
          go (some r) h w z =
              let ns = finishing_all r.0 ++ inside r.1 in
              neat_after_all nv r.0 (suc level) ns Γ o.0 w (fine_is (judges nv r.0 (suc level) ns Γ) r.1 o z).0 (neat_enter N)
