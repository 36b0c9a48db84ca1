-- The check's answer, and then the run of what it accepts, are what `run` answers.
use Prim.Native.Nat.{ℕ}
use mathlib.Core.Path.{◌≡◌, refl, sym, ap, ◌∙◌}
use mathlib.Core.Bool.{Bool, true, false}
use mathlib.Core.List.{List}
use lib.IntN.{ℤ}
use lib.ListN.{length}
use lib.Dec.{eqb}
use borrow.Author.Tests.{eq-eqb}
use Rattle.syntax.specs.Result.{Result, ok, err, Refusal, need, ◌>>=◌}
use Rattle.syntax.specs.Limits.{Limits, in_ranges, row_numbers, store_numbers}
use Rattle.syntax.specs.Script.{Term}
use Rattle.syntax.specs.Measures.{size}
use Rattle.syntax.specs.Answers.{rows_tree, judged_of}
use Rattle.syntax.proofs.Answers.{then, err_ok}
use Rattle.statics.specs.Judge.{judge_script}
use Rattle.ownership.specs.Answers.{check_of}
use Rattle.dynamics.specs.Values.{closed}
use Rattle.dynamics.specs.Store.{State, Ran}
use Rattle.dynamics.specs.Run.{run_script}
use Rattle.dynamics.specs.Answers.{run_fits, runnable, ran_into, run_into, unchecked_of}
use Rattle.dynamics.specs.Readings.{bits_of}
use Rattle.machine.specs.ScriptParts.{RunReady}
use Rattle.room.specs.Running.{refused, checked_first, ended_into, checked_into, run_of}
use Rattle.room.specs.Parts.{of_unchecked}

-- A run's end, told with the machine's answer and without.
end_is : (l : Limits) (x : Ran (State × ℕ)) → ended_into l x ≡ (of_unchecked (ran_into l x).0, (ran_into l x).1)
unfolding ended_into ran_into of_unchecked
end_is l (ok e) = refl
end_is l (err f) = refl

module _ (l : Limits) (rows : List ℕ) (readings : List ℤ) (store : List ℕ) where
  first_refused : (e : Refusal) → checked_first l rows readings store ≡ err e → run_of l rows readings store ≡ (refused e.0 e.1, store)
  unfolding run_of checked_into
  first_refused e h = rw h

  pub run_unfit : (e : Refusal) → err e ≡ run_fits l rows readings store → (refused e.0 e.1, store) ≡ run_of l rows readings store
  unfolding checked_first runnable ◌>>=◌
  run_unfit e h = let j : checked_first l rows readings store ≡ err e = rw (← h) refl in sym (first_refused e j)

  module _ (eight : length readings ≡ 8) (long : length store ≡ store_numbers l) where
    -- With these lengths what is left to judge is what the check judges.
    runnable_is : runnable l rows readings store ≡ rows_tree l rows
    unfolding runnable run_fits rows_tree need ◌>>=◌
    runnable_is = go (in_ranges l) (eqb (length rows) (row_numbers l)) refl refl
      where
        go : (r a : Bool) → in_ranges l ≡ r → eqb (length rows) (row_numbers l) ≡ a → runnable l rows readings store ≡ rows_tree l rows
        go false a q e = rw q
        go true false q e = rw (q, e)
        go true true q e = rw (q, e, eq-eqb (length store) (store_numbers l) long, eq-eqb (length readings) 8 eight)

    pub check_refuses : (e : Refusal) → check_of l rows ≡ err e → run_of l rows readings store ≡ (refused e.0 e.1, store)
    unfolding check_of checked_first ◌>>=◌
    check_refuses e h = first_refused e (ap (λ (m : Result Refusal Term). m >>= λ t. judge_script l.variables t >>= λ _. ok t) runnable_is ∙ go (rows_tree l rows) h)
      where
        judged : (t : Term) (j : Result Refusal (Unit {0})) → (j >>= λ _. ok (size t)) ≡ err e → ◌≡◌ {A = Result Refusal Term} (j >>= λ _. ok t) (err e)
        judged t (ok u) q = err_ok (sym q)
        judged t (err f) q = let z : f ≡ e = cc in ap err z

        go : (m : Result Refusal Term) → (m >>= λ t. judge_script l.variables t >>= λ _. ok (size t)) ≡ err e → (m >>= λ t. judge_script l.variables t >>= λ _. ok t) ≡ err e
        go (ok t) q = judged t (judge_script l.variables t) q
        go (err f) q = let z : f ≡ e = cc in ap err z

    module _ (n : ℕ) (h : check_of l rows ≡ ok n) where
      tree : (t : Term) × (rows_tree l rows ≡ ok t) × ((judge_script l.variables t >>= λ _. ok (size t)) ≡ ok n)
      unfolding check_of
      tree = then (rows_tree l rows) (λ t. judge_script l.variables t >>= λ _. ok (size t)) n h

      counted : (u : Unit {0}) × (judge_script l.variables tree.0 ≡ ok u) × (◌≡◌ {A = Result Refusal ℕ} (ok (size tree.0)) (ok n))
      counted = then (judge_script l.variables tree.0) (λ _. ok (size tree.0)) n tree.2

      pub run_ready : RunReady l rows readings store
      unfolding judged_of ◌>>=◌
      run_ready = record { terms = n; judged = rw tree.1 counted.2; eight = eight; size = long }

      pub check_accepts : run_of l rows readings store ≡ (of_unchecked (unchecked_of l rows readings store).0, (unchecked_of l rows readings store).1)
      unfolding run_of checked_first checked_into unchecked_of run_into ◌>>=◌
      check_accepts = rw (runnable_is ∙ tree.1, counted.1) (end_is l (run_script (bits_of readings) tree.0 (λ x. closed)))
