-- For the layers above: an accepted check says that the set is in its ranges and that the rows decode to a script within it that the judge
-- accepts, and every such script has rows that the check accepts.
use Prim.Native.Nat.{ℕ}
use mathlib.Core.Path.{◌≡◌}
use mathlib.Core.Bool.{true}
use mathlib.Core.List.{List}
use lib.ListN.{length}
use borrow.Author.Tests.{eq-eqb}
use Rattle.syntax.specs.Result.{Result, ok, Refusal, need, ◌>>=◌}
use Rattle.syntax.specs.Limits.{Limits, in_ranges, row_numbers}
use Rattle.syntax.specs.Script.{Term}
use Rattle.syntax.specs.Layout.{rows_of}
use Rattle.syntax.specs.Reader.{decode}
use Rattle.syntax.specs.Measures.{size}
use Rattle.syntax.specs.Within.{Within, Under}
use Rattle.syntax.specs.Answers.{rows_tree}
use Rattle.syntax.proofs.Answers.{then}
use Rattle.syntax.proofs.RoundTrip.{decoded, decodes, rows_length}
use Rattle.statics.specs.Judge.{judge_script}
use Rattle.ownership.specs.Answers.{check_of}
use Rattle.reader.proofs.Promise.{tree_decoded}

-- A script of n terms, in its rows, under a set in its ranges.
pub record Accepted (l : Limits) (rows : List ℕ) (n : ℕ) : Type 0 where
  pub ranges : in_ranges l ≡ true
  pub script : Term
  pub decodes : decode l rows ≡ ok script
  pub laid : rows ≡ rows_of l script
  pub within : Within l script
  pub judged : judge_script l.variables script ≡ ok tt
  pub terms : n ≡ size script

pub accepted : (l : Limits) (rows : List ℕ) (n : ℕ) → Under 4294967296 rows → check_of l rows ≡ ok n → Accepted l rows n
unfolding check_of
accepted l rows n u e =
    let a = then (rows_tree l rows) (λ t. judge_script l.variables t >>= λ _. ok (size t)) n e in
    let b = then (judge_script l.variables a.0) (λ _. ok (size a.0)) n a.2 in
    let c = tree_decoded l rows a.0 a.1 in
    let d = decoded l rows a.0 u c.length c.decodes in
    let z : ◌≡◌ {A = Result Refusal ℕ} (ok (size a.0)) (ok n) = b.2 in
    record { ranges = c.ranges; script = a.0; decodes = c.decodes; laid = d.0; within = d.1; judged = b.1; terms = cc }

pub accepts : (l : Limits) (t : Term) → in_ranges l ≡ true → Within l t → judge_script l.variables t ≡ ok tt → check_of l (rows_of l t) ≡ ok (size t)
unfolding check_of rows_tree need ◌>>=◌
accepts l t r w e = rw (r, eq-eqb (length (rows_of l t)) (row_numbers l) (rows_length l t w), decodes l t w, e)
