-- `check`: what the reader and the judge answer make its answer.
use Prim.Native.Nat.{ℕ, ◌≤◌}
use native.Mathlib.Omega.{arith}
use mathlib.Core.Path.{◌≡◌, sym, ap, subst}
use mathlib.Core.Option.{some}
use mathlib.Core.List.{List}
use lib.ListN.{get_or}
use mir.Val.{Fits}
use mir.Syntax.{w32}
use Rattle.std.specs.Prelude as std
use Rattle.std.specs.Result.{result_and}
use Rattle.syntax.specs.declared.refusals.Refusal as code
use Rattle.syntax.specs.Refusals.{refusal_of, told}
use Rattle.syntax.specs.Result.{Result, ok, err, Refusal, ◌>>=◌}
use Rattle.syntax.specs.Limits.{Limits}
use Rattle.syntax.specs.Script.{Term}
use Rattle.syntax.specs.Measures.{size}
use Rattle.syntax.specs.Layout.{rows_of}
use Rattle.syntax.specs.Within.{Within, Under}
use Rattle.syntax.specs.RowTrees.{RowTree, tree_at}
use Rattle.syntax.specs.Answers.{rows_tree, judged_of}
use Rattle.syntax.proofs.Answers.{then}
use Rattle.syntax.proofs.Lists.{under_all}
use Rattle.syntax.proofs.RoundTrip.{decoded}
use Rattle.syntax.proofs.RowTrees.{tree_stands}
use Rattle.reader.proofs.Promise.{Decoded, tree_decoded}
use Rattle.syntax.proofs.Ranges.{Ranged, ranged}
use Rattle.statics.specs.Rules.{Judged}
use Rattle.statics.specs.Judge.{judge_script}
use Rattle.ownership.specs.Answers.{check_of}
use Rattle.rules.specs.RuleAnswers.{as_requirement}
use Rattle.uses.specs.RowUses.{NamesBelow}
use Rattle.term_judge.specs.JudgeRows.{script_at, EndsAt}
use Rattle.ownership.proofs.JudgedRows.{names_below}

-- What the type of a slice says of its elements.
pub under_words : (rows : List ℕ) → ((i : ℕ) → Fits w32 (get_or rows i 0)) → Under 4294967296 rows
under_words rows h = under_all 4294967296 rows (λ i. omega (arith, h i))

-- The reader refuses.
pub rows_refused : (l : Limits) (rows : List ℕ) (x : Refusal) → err x ≡ judged_of l rows → err x ≡ check_of l rows
unfolding judged_of check_of ◌>>=◌
rows_refused l rows x h = go (rows_tree l rows) h
  where
    go : (r : Result Refusal Term) → err x ≡ (r >>= λ t. ok (size t)) → err x ≡ (r >>= λ t. judge_script l.variables t >>= λ _. ok (size t))
    go (ok t) z = cc
    go (err e) z = cc

-- The reader counts n terms.
module _ (l : Limits) (rows : List ℕ) (under : Under 4294967296 rows) (n : ℕ) (counted : judged_of l rows ≡ ok n) where
  -- The number of variables and the levels that the script is judged with are those of the set (LANGUAGE 2.8).
  abbrev tree : RowTree Term
  tree = tree_at l.variables l.levels rows 0

  script : (t : Term) × Decoded l rows t × (rows_tree l rows ≡ ok t) × (n ≡ size t) × (tree ≡ some (t, size t))
  unfolding judged_of
  script =
      let w = then (rows_tree l rows) (λ t. ok (size t)) n counted in
      let d = tree_decoded l rows w.0 w.1 in
      (w.0, d, w.1, cc w.2, tree_stands l rows w.0 under d.length d.decodes)

  rows_decoded : (rows ≡ rows_of l script.0) × Within l script.0
  rows_decoded = decoded l rows script.0 under script.1.length script.1.decodes

  pub set_ranged : Ranged l
  set_ranged = ranged l script.1.ranges

  pub script_ends : EndsAt tree n
  script_ends = rw script.4 (sym script.3)

  pub script_few : n ≤ 4096
  script_few = omega (arith, script.3, rows_decoded.1.terms, set_ranged.terms.1)

  pub script_names : NamesBelow l.variables rows n
  script_names = subst (λ (k : ℕ). NamesBelow l.variables rows k) (sym script.3) (names_below l rows script.0 rows_decoded.0 script.4)

  -- The judge's answer is the check's, with the number of terms where it accepts.
  judged : (r : Judged (Unit {0})) → r ≡ script_at l.variables tree → (r >>= λ _. ok n) ≡ check_of l rows
  unfolding check_of script_at ◌>>=◌
  judged r e = rw (e, script.4, script.2) (ap (λ (k : ℕ). judge_script l.variables script.0 >>= λ _. ok k) script.3)

  pub rules_told : (r : std.Result (Unit {0}) code.Refusal) → as_requirement r ≡ script_at l.variables tree → told (λ (k : ℕ). k) (result_and r (std.Ok n)) ≡ check_of l rows
  unfolding ◌>>=◌
  rules_told (std.Ok u) e = judged (ok tt) e
  rules_told (std.Err x) e = judged (err (refusal_of x)) e
