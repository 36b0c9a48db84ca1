-- A loop over sets of numbers that finds a closure: what it keeps, what one round does, how many rounds are left, where it ends.
use Prim.Native.Nat.{ℕ, zero, suc, ◌+◌, ◌≤◌, ◌<◌}
use native.Mathlib.Omega.{arith}
use native.Mathlib.Decide.{ℕ_discrete}
use mathlib.Core.Path.{◌≡◌, refl, sym, ap, ap₂, ◌∙◌}
use mathlib.Core.Logic.{◌≢◌, ◌⊎◌, inl, inr}
use mathlib.Core.Bool.{Bool, true, false, false≢true, true≢false}
use lib.Dec.{eqb}
use borrow.Author.Tests.{eqb-true, eq-eqb, ne_eqb}
use Rattle.syntax.specs.Result.{pick}
use Rattle.statics.specs.Closure.{Closure}
use Rattle.statics.proofs.Answers.{same_bool}

-- The closure is one set: any two descriptions of it agree.
pub closure_once : (first : ℕ → Bool) (leads : ℕ → ℕ → Bool) (f g : ℕ → Bool) → Closure first leads f → Closure first leads g → (y : ℕ) → f y ≡ g y
closure_once first leads f g F G y = same_bool (f y) (g y) (F.least g G.start G.closed y) (G.least f F.start F.closed y)

-- Those in `todo` are met, and what they lead to is still to be added.
pub record Meeting (first : ℕ → Bool) (leads : ℕ → ℕ → Bool) (met todo : ℕ → Bool) : Type 0 where
  pub start : (x : ℕ) → first x ≡ true → met x ≡ true
  pub inside : (y : ℕ) → todo y ≡ true → met y ≡ true
  pub added : (y z : ℕ) → met y ≡ true → todo y ≡ false → leads y z ≡ true → met z ≡ true
  pub least : (s : ℕ → Bool) → ((x : ℕ) → first x ≡ true → s x ≡ true) → ((y z : ℕ) → s y ≡ true → leads y z ≡ true → s z ≡ true) → (y : ℕ) → met y ≡ true → s y ≡ true

-- After y: what it leads to is met; what of it is new is to be looked at, and y no more.
abbrev pub met_after : (ℕ → ℕ → Bool) → ℕ → (ℕ → Bool) → ℕ → Bool
met_after leads y met z = pick (met z) true (leads y z)

abbrev pub todo_after : (ℕ → ℕ → Bool) → ℕ → (ℕ → Bool) → (ℕ → Bool) → ℕ → Bool
todo_after leads y met todo z = pick (met z) (pick (eqb y z) false (todo z)) (leads y z)

module _ (first : ℕ → Bool) (leads : ℕ → ℕ → Bool) where
  module _ (met todo : ℕ → Bool) (M : Meeting first leads met todo) where
    module _ (y : ℕ) (h : todo y ≡ true) (met' todo' : ℕ → Bool) (me : (z : ℕ) → met' z ≡ met_after leads y met z) (te : (z : ℕ) → todo' z ≡ todo_after leads y met todo z) where
      stays : (z : ℕ) → met z ≡ true → met' z ≡ true
      stays z e = me z ∙ ap (λ (b : Bool). pick b true (leads y z)) e

      led : (z : ℕ) → leads y z ≡ true → met' z ≡ true
      led z e = me z ∙ go (met z) e
        where
          go : (b : Bool) → leads y z ≡ true → pick b true (leads y z) ≡ true
          go true k = refl
          go false k = k

      was : (z : ℕ) → met' z ≡ true → (met z ≡ true) ⊎ (leads y z ≡ true)
      was z e = go (met z) refl (sym (me z) ∙ e)
        where
          go : (b : Bool) → met z ≡ b → pick b true (leads y z) ≡ true → (met z ≡ true) ⊎ (leads y z ≡ true)
          go true k l = inl k
          go false k l = inr l

      -- Met now and nothing to do: y itself, or so before.
      done : (z : ℕ) → met' z ≡ true → todo' z ≡ false → (z ≡ y) ⊎ ((met z ≡ true) × (todo z ≡ false))
      done z e k = go (met z) refl (sym (me z) ∙ e) (sym (te z) ∙ k)
        where
          same : (c : Bool) → eqb y z ≡ c → met z ≡ true → pick c false (todo z) ≡ false → (z ≡ y) ⊎ ((met z ≡ true) × (todo z ≡ false))
          same true q f g = inl (sym (eqb-true y z q))
          same false q f g = inr (f, g)

          go : (b : Bool) → met z ≡ b → pick b true (leads y z) ≡ true → pick b (pick (eqb y z) false (todo z)) (leads y z) ≡ false → (z ≡ y) ⊎ ((met z ≡ true) × (todo z ≡ false))
          go true f l g = same (eqb y z) refl f g
          go false f l g = absurd (true≢false (sym l ∙ g))

      pub round : Meeting first leads met' todo'
      round = record {
        start = λ x k. stays x (M.start x k);
        inside = λ z k. go z (met z) refl (sym (te z) ∙ k);
        added = λ z w a b c. elim (done z a b) [
          | inl e ↦ led w (ap (λ (k : ℕ). leads k w) (sym e) ∙ c)
          | inr e ↦ stays w (M.added z w e.0 e.1 c)
        ];
        least = λ s a b z k. elim (was z k) [ inl e ↦ M.least s a b z e | inr e ↦ b y z (M.least s a b y (M.inside y h)) e ];
      }
        where
          go : (z : ℕ) (b : Bool) → met z ≡ b → pick b (pick (eqb y z) false (todo z)) (leads y z) ≡ true → met' z ≡ true
          go z true f k = stays z f
          go z false f k = led z k

    -- Nothing left to do: this is the closure.
    pub over : ((y : ℕ) → todo y ≡ false) → Closure first leads met
    over h = record { start = M.start; closed = λ y z a b. M.added y z a (h y) b; least = M.least }

-- ---- rounds

-- Numbers below n with the property.
unfoldable pub count : (ℕ → Bool) → ℕ → ℕ
count f zero = 0
count f (suc n) = pick (f n) 1 0 + count f n

-- Not yet met, or still to do: as many rounds as there are such numbers are left.
abbrev pub waiting : (ℕ → Bool) → (ℕ → Bool) → ℕ → Bool
waiting met todo x = pick (met x) (todo x) true

count_same : (f g : ℕ → Bool) (n : ℕ) → ((z : ℕ) → z < n → f z ≡ g z) → count f n ≡ count g n
unfolding count
count_same f g zero h = refl
count_same f g (suc n) h = ap₂ (λ (b : Bool) (k : ℕ). pick b 1 0 + k) (h n (omega arith)) (count_same f g n (λ z l. h z (omega arith)))

pub count_less : (f g : ℕ → Bool) (n y : ℕ) → y < n → f y ≡ true → g y ≡ false → ((z : ℕ) → z ≢ y → f z ≡ g z) → count f n ≡ suc (count g n)
unfolding count
count_less f g zero y l a b h = absurd (omega arith)
count_less f g (suc n) y l a b h = go (ℕ_discrete n y) (λ k. count_less f g n y k a b h)
  where
    go : Dec (n ≡ y) → (y < n → count f n ≡ suc (count g n)) → pick (f n) 1 0 + count f n ≡ suc (pick (g n) 1 0 + count g n)
    go (yes e) ih =
        let fn : f n ≡ true = ap f e ∙ a in
        let gn : g n ≡ false = ap g e ∙ b in
        let same = count_same f g n (λ z k. h z (λ q. omega arith)) in
        ap (λ (b : Bool). pick b 1 0 + count f n) fn ∙ (let z : 1 + count f n ≡ suc (0 + count g n) = omega arith in z) ∙ ap (λ (b : Bool). suc (pick b 1 0 + count g n)) (sym gn)
    go (no e) ih =
        let s = h n e in
        let c = ih (omega arith) in
        ap (λ (b : Bool). pick b 1 0 + count f n) s ∙ (let z : pick (g n) 1 0 + count f n ≡ suc (pick (g n) 1 0 + count g n) = omega arith in z)

pub count_most : (f : ℕ → Bool) (n : ℕ) → count f n ≤ n
unfolding count
count_most f zero = omega arith
count_most f (suc n) = let k = count_most f n in go (f n) k
  where
    go : (b : Bool) → count f n ≤ n → pick b 1 0 + count f n ≤ suc n
    go true k = omega (arith, k)
    go false k = omega (arith, k)

-- Each round leaves one fewer.
pub one_fewer : (leads : ℕ → ℕ → Bool) (nv : ℕ) (met todo : ℕ → Bool) (y : ℕ) → y < nv → todo y ≡ true → met y ≡ true
    → count (waiting met todo) nv ≡ suc (count (waiting (met_after leads y met) (todo_after leads y met todo)) nv)
one_fewer leads nv met todo y l h k =
    count_less (waiting met todo) (waiting (met_after leads y met) (todo_after leads y met todo)) nv y l
    (ap (λ (b : Bool). pick b (todo y) true) k ∙ h)
    (here (met y) k (eqb y y) (eq-eqb y y refl))
    (λ z n. other z (met z) (leads y z) (eqb y z) (ne_eqb y z (λ q. n (sym q))))
  where
    here : (b : Bool) → b ≡ true → (c : Bool) → c ≡ true → pick (pick b true (leads y y)) (pick b (pick c false (todo y)) (leads y y)) true ≡ false
    here true e true g = refl
    here true e false g = absurd (false≢true g)
    here false e c g = absurd (false≢true e)

    other : (z : ℕ) (b d c : Bool) → c ≡ false → pick b (todo z) true ≡ pick (pick b true d) (pick b (pick c false (todo z)) d) true
    other z true d true e = absurd (true≢false e)
    other z true d false e = refl
    other z false true c e = refl
    other z false false c e = refl
