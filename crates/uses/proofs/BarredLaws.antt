-- What bars a root, by the code's answers: no variable does where none may, and what a set has is what the terms around name. Assumes nothing.
use Prim.Native.Nat.{ℕ, suc, ◌+◌, ◌-◌, ◌≤◌, ◌<◌}
use native.Mathlib.Omega.{arith}
use mathlib.Core.Path.{◌≡◌, refl, sym, ap, ◌∙◌}
use mathlib.Core.Bool.{Bool, true, false}
use mathlib.Core.List.{List, [], ◌∷◌}
use lib.Dec.{eqb}
use Rattle.syntax.specs.Result.{pick}
use Rattle.variables.specs.declared.table.Row.{Row}
use Rattle.variables.specs.declared.roots.Roots.{Roots}
use Rattle.statics.specs.Uses.{Unfinished, names, named_later}
use Rattle.statics.specs.Bars.{held}
use Rattle.variables.specs.Masks.{has, is_empty}
use Rattle.variables.specs.Table.{environment_of}
use Rattle.bars.specs.declared.bars.Borrows.{Borrows}
use Rattle.bars.specs.Held.{borrows_by, MayHold}
use Rattle.bars.specs.Leading.{named_from, LaterIs}
use Rattle.uses.specs.RowUses.{row_names, namings, named_with}
use Rattle.uses.specs.RowPlaces.{Wraps, AllWrap}
use Rattle.variables.proofs.TableLaws.{pick_true}
use Rattle.variables.proofs.MaskLaws.{none_in}
use Rattle.statics.proofs.InUse.{held_some}
use Rattle.uses.proofs.EitherLaws.{swapped, second}
use Rattle.uses.proofs.RowUseLaws.{named_one, last_row}

-- Where no variable may hold a borrow of the root, none of these does.
pub nobody_holds : (env : List Row) (which : Borrows) (root : ℕ) (s : Roots) → MayHold env which root s → is_empty s ≡ true → (these : ℕ → Bool) (n : ℕ) → held (borrows_by which) these n (environment_of env) root ≡ false
nobody_holds env which root s may e these n = go (held (borrows_by which) these n (environment_of env) root) refl
  where
    go : (b : Bool) → held (borrows_by which) these n (environment_of env) root ≡ b → b ≡ false
    go true k = let h = held_some (borrows_by which) these (environment_of env) root n k in sym (may h.0 h.2) ∙ none_in s e h.0
    go false k = refl

-- What is told of a root is told of an equal one.
pub at_root : (of : ℕ → Bool) {told : Bool} {x y : ℕ} → x ≡ y → told ≡ of x → told ≡ of y
at_root of e t = t ∙ ap of e

-- The set has what the terms around name.
pub later_has : (nv : ℕ) (uses : List ℕ) (from : ℕ) (s : Roots) (named : ℕ → Bool) (ns : Unfinished) → ((x : ℕ) → has s x ≡ named x) → LaterIs nv uses from named ns → LaterIs nv uses from (has s) ns
later_has nv uses from s named ns e later x l = later x l ∙ ap (λ (b : Bool). named_from uses from (λ _. b) x) (sym (e x))

-- ---- the set, row by row

-- Each row from `start` to before `end` is one of those around.
pub wraps_at : (nv : ℕ) (rows : List ℕ) (start end row : ℕ) → AllWrap nv rows start (end - start) → start ≤ row → row < end → Wraps nv rows row
wraps_at nv rows start end row all a b =
    let w : start + (row - start) ≡ row = omega arith in
    rw w at (all (row - start) (omega arith))

pub nothing_named : (rows : List ℕ) (start n : ℕ) → n ≡ 0 → (named : ℕ → Bool) (x : ℕ) → named x ≡ named_with rows start n named x
unfolding named_later namings
nothing_named rows start n e named x = rw e (sym (pick_true (named x)))

pub named_all : (rows : List ℕ) (start n count : ℕ) (named all : ℕ → Bool) → n ≡ count → ((x : ℕ) → all x ≡ named_with rows start n named x) → (x : ℕ) → all x ≡ named_with rows start count named x
named_all rows start n count named all e h x = rw (← e) (h x)

-- Row r comes after n rows, and the set has what these name.
module _ (rows : List ℕ) (start n r : ℕ) (row : r ≡ start + n) (named all : ℕ → Bool) (so_far : (x : ℕ) → all x ≡ named_with rows start n named x) where
  abbrev by_row : ℕ → Bool → Bool
  by_row x b = pick (named x) true (pick b true (named_later (namings rows start n) x))

  one_more : (next : ℕ) → next ≡ suc n → (x : ℕ) (b : Bool) → names (row_names rows r) x ≡ b → named_with rows start next named x ≡ by_row x b
  one_more next en x b e = rw (en, last_row rows start n x, ← row, e)

  -- A row that names nothing leaves the set as it is.
  pub named_none : (next : ℕ) → next ≡ suc n → row_names rows r ≡ [] → (x : ℕ) → all x ≡ named_with rows start next named x
  unfolding names
  named_none next en q x = so_far x ∙ sym (one_more next en x false (rw q))

  -- One that names one variable adds it.
  pub named_first : (next : ℕ) → next ≡ suc n → (y : ℕ) → row_names rows r ≡ y ∷ []
      → (more one : ℕ → Bool) → ((x : ℕ) → more x ≡ pick (all x) true (one x)) → ((x : ℕ) → one x ≡ eqb y x) → (x : ℕ) → more x ≡ named_with rows start next named x
  named_first next en y q more one me oe x =
      me x
      ∙ rw (so_far x, oe x) (swapped (named_with rows start n named x) (eqb y x) ∙ second (eqb y x) (named x) (named_later (namings rows start n) x))
      ∙ sym (one_more next en x (eqb y x) (rw q (named_one y x)))
