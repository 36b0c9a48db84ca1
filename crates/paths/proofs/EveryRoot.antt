-- A test on all places of a set of roots, done root by root: a root that fails settles it, one that passes is taken out, and where none is
-- left all have passed. Assumes nothing.
use Prim.Native.Nat.{ℕ, ◌<◌}
use native.Mathlib.Omega.{arith}
use native.Mathlib.Decide.{ℕ_discrete}
use mathlib.Core.Path.{◌≡◌, refl, sym, ap, ◌∙◌}
use mathlib.Core.Bool.{Bool, true, false, false≢true, true≢false}
use lib.Dec.{eqb}
use borrow.Author.Tests.{ne_eqb}
use Rattle.syntax.specs.Result.{pick}
use Rattle.syntax.specs.Script.{Place}
use Rattle.variables.specs.declared.roots.Roots.{Roots}
use Rattle.statics.specs.Places.{every}
use Rattle.variables.specs.Masks.{has}
use Rattle.statics.specs.Roots.{place_at, places_from, places_of}
use Rattle.statics.proofs.Answers.{same_bool}
use Rattle.statics.proofs.SetLaws.{every_in}
use Rattle.statics.proofs.SetEquality.{all_pass}
use Rattle.statics.proofs.RootLaws.{from_out, from_in}

module _ (n : ℕ) (f : Place → Bool) (long : ℕ → ℕ) (m : ℕ) where
  -- All roots pass that are below n.
  abbrev pub AllPass : Roots → Type 0
  AllPass s = (x : ℕ) → x < n → has s x ≡ true → f (place_at long m x) ≡ true

  every_out : (s : Roots) → every f (places_of n (has s) long m) ≡ true → AllPass s
  unfolding places_of
  every_out s h x l e = every_in f (place_at long m x) (places_from (has s) long m 0 n) h (from_in (has s) long m 0 n x (omega arith) (omega arith) e)

  pub every_holds : (s : Roots) → AllPass s → every f (places_of n (has s) long m) ≡ true
  unfolding places_of
  every_holds s h = all_pass f (places_from (has s) long m 0 n) (λ q i. let k = from_out (has s) long m 0 n q i in ap f k.3 ∙ h q.root (omega (arith, k.1)) k.2)

  -- No root is left.
  pub every_over : (s : Roots) → ((x : ℕ) → has s x ≡ false) → every f (places_of n (has s) long m) ≡ true
  every_over s e = every_holds s (λ x l h. absurd (false≢true (sym (e x) ∙ h)))

  -- One fails.
  pub every_fails : (s : Roots) (x : ℕ) → x < n → has s x ≡ true → f (place_at long m x) ≡ false → every f (places_of n (has s) long m) ≡ false
  every_fails s x l h e = go (every f (places_of n (has s) long m)) refl
    where
      go : (b : Bool) → every f (places_of n (has s) long m) ≡ b → b ≡ false
      go true k = absurd (true≢false (sym (every_out s k x l h) ∙ e))
      go false k = refl

  -- One passes, and is taken out.
  pub every_on : (s s' : Roots) (x : ℕ) → f (place_at long m x) ≡ true → ((y : ℕ) → has s' y ≡ pick (eqb x y) false (has s y))
      → every f (places_of n (has s') long m) ≡ every f (places_of n (has s) long m)
  every_on s s' x e out = same_bool (every f (places_of n (has s') long m)) (every f (places_of n (has s) long m))
      (λ h. every_holds s (λ y l k. passes y l k (every_out s' h y l) (ℕ_discrete x y)))
      (λ h. every_holds s' (λ y l k. every_out s h y l (there y (eqb x y) (sym (out y) ∙ k))))
    where
      there : (y : ℕ) (b : Bool) → pick b false (has s y) ≡ true → has s y ≡ true
      there y true k = absurd (false≢true k)
      there y false k = k

      passes : (y : ℕ) → y < n → has s y ≡ true → (has s' y ≡ true → f (place_at long m y) ≡ true) → Dec (x ≡ y) → f (place_at long m y) ≡ true
      passes y l k h (yes q) = ap (λ (z : ℕ). f (place_at long m z)) (sym q) ∙ e
      passes y l k h (no q) = h (out y ∙ ap (λ (b : Bool). pick b false (has s y)) (ne_eqb x y q) ∙ k)
