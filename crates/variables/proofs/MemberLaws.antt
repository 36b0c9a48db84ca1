-- The numbers of a set in a list, lowest first: what a walk over the set meets, and what is left of it. Assumes nothing.
use Prim.Native.Nat.{ℕ, zero, suc, ◌+◌, ◌≤◌, ◌<◌}
use native.Mathlib.Omega.{arith}
use mathlib.Core.Path.{◌≡◌, refl, sym, ap, ap₂, ◌∙◌}
use mathlib.Core.Bool.{Bool, true, false, false≢true, true≢false}
use mathlib.Core.List.{List, [], ◌∷◌}
use mathlib.Core.Logic.{◌≢◌}
use lib.Dec.{ltb, eqb}
use lib.ListN.{get_or, drop, length}
use borrow.Author.Tests.{ltb-true, ltb-false, eqb-true, eq-eqb, ne_eqb}
use Rattle.syntax.specs.Result.{pick}
use Rattle.variables.specs.Masks.{has, is_empty, numbers_from, members}
use Rattle.variables.specs.declared.roots.Roots.{Roots}
use Rattle.statics.proofs.ClosureLoop.{count}
use Rattle.variables.proofs.MaskLaws.{has_below, in_neither, none_in, one_out}

-- ---- which numbers a list has

abbrev listed : List ℕ → ℕ → Bool
listed [] y = false
listed (x ∷ xs) y = pick (eqb x y) true (listed xs y)

not_same : (x y : ℕ) → eqb x y ≡ false → x ≢ y
not_same x y e q = true≢false (sym (eq-eqb x y q) ∙ e)

module _ (f : ℕ → Bool) where
  not_before : (a n y : ℕ) → y < a → listed (numbers_from f a n) y ≡ false
  unfolding numbers_from
  not_before a zero y l = refl
  not_before a (suc n) y l = go (f a) (not_before (suc a) n y (omega arith))
    where
      go : (b : Bool) → listed (numbers_from f (suc a) n) y ≡ false → listed (pick b (a ∷ numbers_from f (suc a) n) (numbers_from f (suc a) n)) y ≡ false
      go true h = ap (λ (b : Bool). pick b true (listed (numbers_from f (suc a) n) y)) (ne_eqb a y (λ q. omega arith)) ∙ h
      go false h = h

  not_after : (a n y : ℕ) → a + n ≤ y → listed (numbers_from f a n) y ≡ false
  unfolding numbers_from
  not_after a zero y l = refl
  not_after a (suc n) y l = go (f a) (not_after (suc a) n y (omega arith))
    where
      go : (b : Bool) → listed (numbers_from f (suc a) n) y ≡ false → listed (pick b (a ∷ numbers_from f (suc a) n) (numbers_from f (suc a) n)) y ≡ false
      go true h = ap (λ (b : Bool). pick b true (listed (numbers_from f (suc a) n) y)) (ne_eqb a y (λ q. omega arith)) ∙ h
      go false h = h

  listed_is : (a n y : ℕ) → a ≤ y → y < a + n → listed (numbers_from f a n) y ≡ f y
  unfolding numbers_from
  listed_is a zero y g l = absurd (omega arith)
  listed_is a (suc n) y g l = go (f a) refl (eqb a y) refl (λ m. listed_is (suc a) n y m (omega arith))
    where
      go : (b : Bool) → f a ≡ b → (d : Bool) → eqb a y ≡ d → (suc a ≤ y → listed (numbers_from f (suc a) n) y ≡ f y) → listed (pick b (a ∷ numbers_from f (suc a) n) (numbers_from f (suc a) n)) y ≡ f y
      go true e true k ih = ap (λ (b : Bool). pick b true (listed (numbers_from f (suc a) n) y)) k ∙ sym e ∙ ap f (eqb-true a y k)
      go true e false k ih =
          let m = not_same a y k in
          ap (λ (b : Bool). pick b true (listed (numbers_from f (suc a) n) y)) k ∙ ih (omega arith)
      go false e true k ih = not_before (suc a) n y (omega (arith, eqb-true a y k)) ∙ sym e ∙ ap f (eqb-true a y k)
      go false e false k ih = let m = not_same a y k in ih (omega arith)

  -- The first of the list is the least, and is in it once.
  first_once : (a n x : ℕ) (xs : List ℕ) → numbers_from f a n ≡ x ∷ xs → listed xs x ≡ false
  unfolding numbers_from
  first_once a zero x xs e = absurd (omega (arith, ap length e))
  first_once a (suc n) x xs e = go (f a) e (first_once (suc a) n x xs)
    where
      go : (b : Bool) → pick b (a ∷ numbers_from f (suc a) n) (numbers_from f (suc a) n) ≡ x ∷ xs → (numbers_from f (suc a) n ≡ x ∷ xs → listed xs x ≡ false) → listed xs x ≡ false
      go true k ih =
          ap₂ (λ (l : List ℕ) (y : ℕ). listed l y) (sym (ap (drop 1) k)) (sym (ap (λ (l : List ℕ). get_or l 0 0) k))
          ∙ not_before (suc a) n a (omega arith)
      go false k ih = ih k

  first_least : (a n x : ℕ) (xs : List ℕ) → numbers_from f a n ≡ x ∷ xs → (y : ℕ) → y < x → listed (numbers_from f a n) y ≡ false
  unfolding numbers_from
  first_least a zero x xs e y l = refl
  first_least a (suc n) x xs e y l = go (f a) e (λ k. first_least (suc a) n x xs k y l)
    where
      go : (b : Bool) → pick b (a ∷ numbers_from f (suc a) n) (numbers_from f (suc a) n) ≡ x ∷ xs
          → (numbers_from f (suc a) n ≡ x ∷ xs → listed (numbers_from f (suc a) n) y ≡ false)
          → listed (pick b (a ∷ numbers_from f (suc a) n) (numbers_from f (suc a) n)) y ≡ false
      go true k ih =
          let here : a ≡ x = ap (λ (l : List ℕ). get_or l 0 0) k in
          ap (λ (b : Bool). pick b true (listed (numbers_from f (suc a) n) y)) (ne_eqb a y (λ q. omega arith)) ∙ not_before (suc a) n y (omega arith)
      go false k ih = ih k

  none_from : (a n : ℕ) → ((y : ℕ) → f y ≡ false) → numbers_from f a n ≡ []
  unfolding numbers_from
  none_from a zero h = refl
  none_from a (suc n) h = rw (h a) (none_from (suc a) n h)

module _ (f g : ℕ → Bool) where
  same_from : (a n : ℕ) → ((y : ℕ) → a ≤ y → f y ≡ g y) → numbers_from f a n ≡ numbers_from g a n
  unfolding numbers_from
  same_from a zero h = refl
  same_from a (suc n) h =
      ap₂ (λ (b : Bool) (l : List ℕ). pick b (a ∷ l) l) (h a (omega arith)) (same_from (suc a) n (λ y l. h y (omega arith)))

  -- Without its least number a set has the others.
  first_of : (x : ℕ) → f x ≡ true → ((y : ℕ) → f y ≡ true → x ≤ y) → ((y : ℕ) → g y ≡ pick (eqb x y) false (f y))
      → (a n : ℕ) → a ≤ x → x < a + n → numbers_from f a n ≡ x ∷ numbers_from g a n
  unfolding numbers_from
  first_of x h least out a zero l u = absurd (omega arith)
  first_of x h least out a (suc n) l u = go (eqb x a) refl (f a) refl (λ m. first_of x h least out (suc a) n m (omega arith))
    where
      later : (y : ℕ) → suc x ≤ y → f y ≡ g y
      later y m = sym (out y ∙ ap (λ (b : Bool). pick b false (f y)) (ne_eqb x y (λ q. omega arith)))

      go : (d : Bool) → eqb x a ≡ d → (b : Bool) → f a ≡ b → (suc a ≤ x → numbers_from f (suc a) n ≡ x ∷ numbers_from g (suc a) n)
          → pick (f a) (a ∷ numbers_from f (suc a) n) (numbers_from f (suc a) n) ≡ x ∷ pick (g a) (a ∷ numbers_from g (suc a) n) (numbers_from g (suc a) n)
      go true e b k ih =
          let here : x ≡ a = eqb-true x a e in
          let in_f : f a ≡ true = sym (ap f here) ∙ h in
          let in_g : g a ≡ false = out a ∙ ap (λ (b : Bool). pick b false (f a)) e in
          rw (in_f, in_g) (ap₂ (λ (y : ℕ) (l : List ℕ). y ∷ l) (sym here) (same_from (suc a) n (λ y m. later y (omega arith))))
      go false e true k ih = let m = least a k in absurd (not_same x a e (omega arith))
      go false e false k ih =
          let in_g : g a ≡ false = out a ∙ ap (λ (b : Bool). pick b false (f a)) e ∙ k in
          let m = not_same x a e in
          rw (k, in_g) (ih (omega arith))

-- ---- the numbers of a set

listed_members : (s : Roots) (y : ℕ) → listed (members s) y ≡ has s y
unfolding members
listed_members s y = go (ltb y 128) refl
  where
    go : (b : Bool) → ltb y 128 ≡ b → listed (numbers_from (has s) 0 128) y ≡ has s y
    go true e = listed_is (has s) 0 128 y (omega arith) (ltb-true y 128 e)
    go false e = let l = ltb-false y 128 e in not_after (has s) 0 128 y l ∙ sym (in_neither s y l)

pub members_none : (s : Roots) → is_empty s ≡ true → members s ≡ []
unfolding members
members_none s e = none_from (has s) 0 128 (none_in s e)

pub members_first : (s t : Roots) (x : ℕ) → (has s x ≡ true) × (x < 128) × ((y : ℕ) → has s y ≡ true → x ≤ y)
    → ((y : ℕ) → has t y ≡ pick (eqb x y) false (has s y)) → members s ≡ x ∷ members t
unfolding members
members_first s t x h out = first_of (has s) (has t) x h.0 h.2 out 0 128 (omega arith) h.1

-- ---- what a walk knows

-- x is the lowest number of s, and t has the others.
pub record Taken (s : Roots) (x : ℕ) (t : Roots) : Type 0 where
  pub member : has s x ≡ true
  pub low : x < 128
  pub least : (y : ℕ) → has s y ≡ true → x ≤ y
  pub others : (y : ℕ) → has t y ≡ pick (eqb x y) false (has s y)
  pub fewer : count (has s) 128 ≡ suc (count (has t) 128)

-- After `Some(x)`.
pub taken : (s t : Roots) (x : ℕ) → members s ≡ x ∷ members t → Taken s x t
unfolding members
taken s t x e = record { member = is_in; low = has_below s x is_in; least = first; others = out; fewer = one_out s t x is_in out }
  where
    met : (y : ℕ) → has s y ≡ pick (eqb x y) true (has t y)
    met y = sym (listed_members s y) ∙ ap (λ (l : List ℕ). listed l y) e ∙ ap (pick (eqb x y) true) (listed_members t y)

    is_in : has s x ≡ true
    is_in = met x ∙ ap (λ (b : Bool). pick b true (has t x)) (eq-eqb x x refl)

    once : has t x ≡ false
    once = sym (listed_members t x) ∙ first_once (has s) 0 128 x (members t) e

    out : (y : ℕ) → has t y ≡ pick (eqb x y) false (has s y)
    out y = go (eqb x y) refl
      where
        go : (b : Bool) → eqb x y ≡ b → has t y ≡ pick b false (has s y)
        go true k = sym (ap (has t) (eqb-true x y k)) ∙ once
        go false k = sym (met y ∙ ap (λ (b : Bool). pick b true (has t y)) k)

    first : (y : ℕ) → has s y ≡ true → x ≤ y
    first y h = go (ltb y x) refl
      where
        go : (b : Bool) → ltb y x ≡ b → x ≤ y
        go true k = absurd (false≢true (sym (sym (listed_members s y) ∙ first_least (has s) 0 128 x (members t) e y (ltb-true y x k)) ∙ h))
        go false k = ltb-false y x k

-- After `None`.
pub none_left : (s : Roots) → members s ≡ [] → (x : ℕ) → has s x ≡ false
none_left s e x = sym (listed_members s x) ∙ ap (λ (l : List ℕ). listed l x) e
