-- The answers of reading and of running, put together, are what a call answers, under any set.
use Prim.Native.Nat.{ℕ, ◌≤◌}
use mathlib.Core.Path.{◌≡◌, refl, ap, ◌∙◌}
use mathlib.Core.Bool.{Bool, true, false}
use mathlib.Core.List.{List}
use lib.IntN.{ℤ}
use lib.ListN.{length}
use lib.Dec.{leb, eqb}
use borrow.Author.Tests.{leb-true}
use Rattle.syntax.specs.Result.{ok, err, Refusal, need, ◌>>=◌}
use Rattle.syntax.specs.Limits.{Limits, in_ranges, max_bytes, row_numbers}
use Rattle.syntax.specs.Kinds.{newest}
use Rattle.syntax.specs.Answers.{Told, Answered, lengths_fit, read_of}
use Rattle.syntax.proofs.Answers.{then, needed}
use Rattle.dynamics.specs.Answers.{run_fits}
use Rattle.machine.proofs.FitLaws.{Fit, fit_says}
use Rattle.room.specs.Running.{RunMade, run_of}
use Rattle.room.specs.Calling.{refused, call_fits, run_called, read_called, fit_called, call_of}

module _ (l : Limits) (script : List ℕ) (readings : List ℤ) (rows store : List ℕ) where
  -- With the set and the script's length right, what is left is a run's.
  pub as_run : in_ranges l ≡ true → leb (length script) max_bytes ≡ true → call_fits l script readings rows store ≡ run_fits l rows readings store
  unfolding call_fits lengths_fit run_fits need ◌>>=◌
  as_run q few = go (eqb (length rows) (row_numbers l)) refl
    where
      go : (b : Bool) → eqb (length rows) (row_numbers l) ≡ b → call_fits l script readings rows store ≡ run_fits l rows readings store
      go false e = rw (q, few, e) refl
      go true e = rw (q, few, e) refl

  -- The lengths that no set changes, and those that a run asks.
  pub fits_say : (u : Unit {0}) → call_fits l script readings rows store ≡ ok u → (length script ≤ max_bytes) × Fit l rows readings store
  unfolding call_fits lengths_fit
  fits_say u h =
      let x = then (lengths_fit l script rows) (λ _. run_fits l rows readings store) u h in
      let y = then (need (in_ranges l) (74, 0)) _ x.0 x.1 in
      let z = then (need (leb (length script) max_bytes) (1, 0)) _ x.0 y.2 in
      (leb-true _ _ (needed _ _ z.0 z.1), fit_says l rows readings store u x.2)

  pub call_unfit : (e : Refusal) → err e ≡ call_fits l script readings rows store → (refused e.0 e.1, (rows, store)) ≡ call_of l script readings rows store
  unfolding call_of fit_called
  call_unfit e h = rw (← h) refl

  module _ (u : Unit {0}) (fits : ok u ≡ call_fits l script readings rows store) where
    call_is : read_called l readings store (read_of l newest script rows).0 (read_of l newest script rows).1 ≡ call_of l script readings rows store
    unfolding call_of fit_called
    call_is = rw (← fits) refl

    pub call_unread : (e : Refusal) (rows₁ : List ℕ) → (err e, rows₁) ≡ read_of l newest script rows → (refused e.0 e.1, (rows₁, store)) ≡ call_of l script readings rows store
    unfolding read_called
    call_unread e rows₁ q = ap (λ (x : Answered Told). read_called l readings store x.0 x.1) q ∙ call_is

    pub call_read : (v n : ℕ) (rows₁ : List ℕ) → (ok (v, n), rows₁) ≡ read_of l newest script rows → (m : RunMade) → m ≡ run_of l rows₁ readings store
        → run_called n rows₁ m ≡ call_of l script readings rows store
    unfolding read_called
    call_read v n rows₁ q m r = ap (run_called n rows₁) r ∙ ap (λ (x : Answered Told). read_called l readings store x.0 x.1) q ∙ call_is
