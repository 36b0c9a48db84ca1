-- What the caller's refusal says of the set and the lengths (LANGUAGE 5.3, 5.8).
use Prim.Native.Nat.{ℕ}
use mathlib.Core.Path.{◌≡◌, sym}
use mathlib.Core.Bool.{true}
use mathlib.Core.List.{List}
use lib.IntN.{ℤ}
use lib.ListN.{length}
use lib.Dec.{eqb}
use borrow.Author.Tests.{eqb-true}
use Rattle.std.specs.Prelude.{Ok, Err}
use Rattle.syntax.specs.Result.{ok, err, need}
use Rattle.syntax.specs.Refusals.{number_of, told}
use Rattle.syntax.specs.declared.refusals.Refusal as answer
use Rattle.syntax.specs.Limits.{Limits, in_ranges, row_numbers, store_numbers}
use Rattle.syntax.proofs.Answers.{then, needed}
use Rattle.dynamics.specs.Answers.{run_fits}
use Rattle.machine.specs.ScriptParts.{fit_of}

-- Set and lengths fit.
pub record Fit (l : Limits) (rows : List ℕ) (readings : List ℤ) (store : List ℕ) : Type 0 where
  pub fits : run_fits l rows readings store ≡ ok tt
  pub ranges : in_ranges l ≡ true
  pub long : length rows ≡ row_numbers l
  pub size : length store ≡ store_numbers l
  pub eight : length readings ≡ 8

module _ (l : Limits) (rows : List ℕ) (readings : List ℤ) (store : List ℕ) where
  pub fit_says : (u : Unit {0}) → run_fits l rows readings store ≡ ok u → Fit l rows readings store
  unfolding run_fits
  fit_says u h =
      let a = then (need (in_ranges l) (74, 0)) _ u h in
      let b = then (need (eqb (length rows) (row_numbers l)) (2, 0)) _ u a.2 in
      let c = then (need (eqb (length store) (store_numbers l)) (3, 0)) _ u b.2 in
      record {
        fits = h;
        ranges = needed _ _ a.0 a.1;
        long = eqb-true _ _ (needed _ _ b.0 b.1);
        size = eqb-true _ _ (needed _ _ c.0 c.1);
        eight = eqb-true _ _ (needed _ _ u c.2);
      }

  -- The same by the code's answer.
  pub all_fit : (u : Unit {0}) → told (λ x. x) (Ok u) ≡ fit_of l (length rows) (length store) (length readings) → Fit l rows readings store
  unfolding fit_of run_fits
  all_fit u h = fit_says u (sym h)

  pub unfit : (e : answer.Refusal) → told (λ x. x) (Err e) ≡ fit_of l (length rows) (length store) (length readings) → run_fits l rows readings store ≡ err (number_of e.reason, e.place)
  unfolding fit_of run_fits
  unfit e h = sym h
