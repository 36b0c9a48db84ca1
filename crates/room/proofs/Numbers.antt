-- The numbers with which a run and a call refuse (LANGUAGE 6.1): none is one of 60 to 63.
use Prim.Native.Nat.{ℕ, ◌≤◌}
use mathlib.Core.Path.{◌≡◌, refl}
use mathlib.Core.Logic.{inl, inr, ⊎_elim}
use mathlib.Core.Bool.{Bool, true, false}
use mathlib.Core.List.{List}
use lib.IntN.{ℤ}
use lib.ListN.{length}
use lib.Dec.{T, leb, eqb}
use Rattle.syntax.specs.Result.{Result, ok, err, Refusal, need, ◌>>=◌}
use Rattle.syntax.specs.Limits.{Limits, in_ranges, max_bytes, row_numbers, store_numbers}
use Rattle.syntax.specs.Script.{Term}
use Rattle.syntax.specs.Kinds.{newest}
use Rattle.syntax.specs.Reader.{parse, decode}
use Rattle.syntax.specs.Answers.{rows_fit, lengths_fit}
use Rattle.syntax.proofs.Answers.{halts, halts_first}
use Rattle.statics.specs.Judge.{judge_script}
use Rattle.dynamics.specs.Answers.{run_fits, runnable}
use Rattle.syntax.proofs.NumberRanges.{Only, onward, tested}
use Rattle.syntax.proofs.FormNumbers.{form_numbers, read_numbers}
use Rattle.safety.proofs.RefusalNumbers.{author_numbers}
use Rattle.room.specs.Running.{checked_first, RunNumber}
use Rattle.room.specs.Calling.{call_fits, read_first, CallNumber}

judged_number : (nv : ℕ) (t : Term) (e : Refusal) → (judge_script nv t >>= λ _. ok t) ≡ err e → (30 ≤ e.0) × (e.0 ≤ 43)
judged_number nv t e h = author_numbers nv t e (halts_first (judge_script nv t) (λ _. t) e h)

module _ (l : Limits) (readings : List ℤ) (rows store : List ℕ) (e : Refusal) where
  -- The lengths of rows, store and readings, from the least number a on that is asked for.
  of_lengths : {a : ℕ} → T (leb a 2) → T (leb a 3) → T (leb a 4)
      → Only a 4 (rows_fit l rows >>= λ _. need (eqb (length store) (store_numbers l)) (3, 0) >>= λ _. need (eqb (length readings) 8) (4, 0))
  of_lengths x y z =
      onward (tested (eqb (length rows) (row_numbers l)) (2, 0) x tt)
      (λ _. onward (tested (eqb (length store) (store_numbers l)) (3, 0) y tt) (λ _. tested (eqb (length readings) 8) (4, 0) z tt))

  run_fits_law : run_fits l rows readings store ≡ err e → RunNumber e.0
  unfolding run_fits need ◌>>=◌
  run_fits_law h = go (in_ranges l) refl
    where
      go : (r : Bool) → in_ranges l ≡ r → RunNumber e.0
      go false q = let f : ◌≡◌ {A = Result Refusal (Unit {0})} (err (74, 0)) (err e) = rw q at h in inl cc
      go true q = inr (inl ((of_lengths tt tt tt).number_in e (rw q at h)))

  pub run_number_law : checked_first l rows readings store ≡ err e → RunNumber e.0
  unfolding checked_first runnable
  run_number_law h =
      ⊎_elim
      (λ x. ⊎_elim run_fits_law (λ y. inr (inr (inl (form_numbers l rows e y.2)))) (halts (run_fits l rows readings store) (λ _. decode l rows) e x))
      (λ x. inr (inr (inr (judged_number l.variables x.0 e x.2))))
      (halts (runnable l rows readings store) (λ t. judge_script l.variables t >>= λ _. ok t) e h)

  module _ (script : List ℕ) where
    -- The rows' length is judged by reading and by running.
    of_call : Only 1 4 ((need (leb (length script) max_bytes) (1, 0) >>= λ _. rows_fit l rows) >>= λ _. rows_fit l rows >>= λ _. need (eqb (length store) (store_numbers l)) (3, 0) >>= λ _. need (eqb (length readings) 8) (4, 0))
    of_call = onward (onward (tested (leb (length script) max_bytes) (1, 0) tt tt) (λ _. tested (eqb (length rows) (row_numbers l)) (2, 0) tt tt)) (λ _. of_lengths tt tt tt)

    call_fits_law : call_fits l script readings rows store ≡ err e → CallNumber e.0
    unfolding call_fits lengths_fit run_fits need ◌>>=◌
    call_fits_law h = go (in_ranges l) refl
      where
        go : (r : Bool) → in_ranges l ≡ r → CallNumber e.0
        go false q = let f : ◌≡◌ {A = Result Refusal (Unit {0})} (err (74, 0)) (err e) = rw q at h in inl cc
        go true q = inr (inl (of_call.number_in e (rw q at h)))

    pub call_number : read_first l script readings rows store ≡ err e → CallNumber e.0
    unfolding read_first
    call_number h =
        ⊎_elim call_fits_law
        (λ x. ⊎_elim (λ y. inr (inr (inl (read_numbers l newest script e y)))) (λ y. inr (inr (inr (judged_number l.variables y.0.term e y.2))))
        (halts (parse l newest script) (λ w. judge_script l.variables w.term >>= λ _. ok w.term) e x.2))
        (halts (call_fits l script readings rows store) (λ _. parse l newest script >>= λ w. judge_script l.variables w.term >>= λ _. ok w.term) e h)
