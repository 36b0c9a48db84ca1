-- Assigns: every variable that may be written, and what is known after the write to one or to several.
use Prim.Native.Nat.{ℕ, ◌-◌, ◌^◌, ◌<◌}
use native.Mathlib.Omega.{arith}
use native.Mathlib.Decide.{ℕ_discrete}
use mathlib.Core.Path.{◌≡◌, refl, sym, ap, ap₂, fun_ext, ◌∙◌, subst}
use mathlib.Core.Logic.{◌⊎◌, inl, inr}
use mathlib.Core.Bool.{Bool, true, false, false≢true, true≢false}
use mathlib.Core.List.{List, [], ◌∷◌}
use lib.Dec.{eqb}
use borrow.Author.Tests.{eqb-true, eq-eqb, ne_eqb}
use Rattle.syntax.specs.Result.{pick}
use Rattle.syntax.specs.Script.{Place}
use Rattle.variables.specs.declared.table.Row.{Row}
use Rattle.variables.specs.declared.roots.Roots.{Roots}
use Rattle.statics.specs.Places.{some_of, rooted}
use Rattle.statics.specs.Environment.{Borrow, Slot, Environment, update, refilled, widened, single, write}
use Rattle.statics.specs.Neat.{place, Among}
use Rattle.statics.specs.Roots.{lengths, place_at, places_from, places_of}
use Rattle.variables.specs.Chains.{chain_of}
use Rattle.variables.specs.Masks.{has, is_empty}
use Rattle.variables.specs.Table.{environment_of, links_at, end_in, SameLinks, WidenedAll, Written}
use Rattle.statics.proofs.Answers.{same_bool}
use Rattle.statics.proofs.Slots.{update_same, update_other}
use Rattle.statics.proofs.RootLaws.{same_roots, from_in, rooted_places}
use Rattle.statics.proofs.RootSets.{one_place}
use Rattle.variables.proofs.MaskLaws.{none_in, some_in}
use Rattle.variables.proofs.TableLaws.{kept_end}

-- ---- a number taken out of a set

abbrev pub Without : Roots → ℕ → Roots → Type 0
Without left x left' = (y : ℕ) → has left' y ≡ pick (eqb x y) false (has left y)

module _ (left left' : Roots) (x : ℕ) (W : Without left x left') where
  out_self : has left' x ≡ false
  out_self = W x ∙ ap (λ (b : Bool). pick b false (has left x)) (eq-eqb x x refl)

  out_other : (y : ℕ) → (x ≡ y → ⊥) → has left' y ≡ has left y
  out_other y n = W y ∙ ap (λ (b : Bool). pick b false (has left y)) (ne_eqb x y n)

  pub out_kept : (y : ℕ) → has left' y ≡ true → (x ≡ y → ⊥) × (has left y ≡ true)
  out_kept y h = go (ℕ_discrete x y)
    where
      go : Dec (x ≡ y) → (x ≡ y → ⊥) × (has left y ≡ true)
      go (yes e) = absurd (false≢true (sym out_self ∙ ap (has left') e ∙ h))
      go (no n) = (n, sym (out_other y n) ∙ h)

-- ---- several variables that may be written

-- Those of the set that are not left are widened, all others as before.
pub record Widening (env₀ : List Row) (to left s : Roots) (env : List Row) : Type 0 where
  pub within : (y : ℕ) → has left y ≡ true → has to y ≡ true
  pub done : (y : ℕ) → has to y ≡ true → has left y ≡ false → environment_of env y ≡ widened (environment_of env₀ y) (end_in env₀ (chain_of (links_at env₀ y)) s)
  pub rest : (y : ℕ) → has left y ≡ true → environment_of env y ≡ environment_of env₀ y
  pub out : (y : ℕ) → has to y ≡ false → environment_of env y ≡ environment_of env₀ y
  pub links : SameLinks env₀ env

pub widening_first : (env : List Row) (to s : Roots) → Widening env to to s env
widening_first env to s = record { within = λ y h. h; done = λ y h k. absurd (true≢false (sym h ∙ k)); rest = λ y h. refl; out = λ y h. refl; links = λ y. refl }

pub widening_next : (env₀ env env' : List Row) (to left left' s : Roots) (x : ℕ) → has left x ≡ true → Without left x left'
    → environment_of env' ≡ update (environment_of env) x (widened (environment_of env x) (end_in env (chain_of (links_at env x)) s)) → SameLinks env env'
    → Widening env₀ to left s env → Widening env₀ to left' s env'
widening_next env₀ env env' to left left' s x h W E L I = record {
  within = λ y k. I.within y (out_kept left left' x W y k).1;
  done = λ y k j. go y k j (ℕ_discrete x y);
  rest = λ y k. let o = out_kept left left' x W y k in other y o.0 ∙ I.rest y o.1;
  out = λ y k. other y (λ e. true≢false (sym (I.within x h) ∙ ap (has to) e ∙ k)) ∙ I.out y k;
  links = λ y. L y ∙ I.links y;
}
  where
    other : (y : ℕ) → (x ≡ y → ⊥) → environment_of env' y ≡ environment_of env y
    other y n = ap (λ (Γ : Environment). Γ y) E ∙ update_other (environment_of env) x (widened (environment_of env x) (end_in env (chain_of (links_at env x)) s)) y (λ e. n (sym e))

    here : environment_of env' x ≡ widened (environment_of env₀ x) (end_in env₀ (chain_of (links_at env₀ x)) s)
    here =
        ap (λ (Γ : Environment). Γ x) E
        ∙ update_same (environment_of env) x (widened (environment_of env x) (end_in env (chain_of (links_at env x)) s))
        ∙ ap₂ (λ (sl : Slot) (b : Borrow). widened sl b) (I.rest x h) (ap (λ (k : ℕ). end_in env (chain_of k) s) (I.links x) ∙ kept_end env₀ env I.links (chain_of (links_at env₀ x)) s)

    go : (y : ℕ) → has to y ≡ true → has left' y ≡ false → Dec (x ≡ y) → environment_of env' y ≡ widened (environment_of env₀ y) (end_in env₀ (chain_of (links_at env₀ y)) s)
    go y k j (yes e) = subst (λ (z : ℕ). environment_of env' z ≡ widened (environment_of env₀ z) (end_in env₀ (chain_of (links_at env₀ z)) s)) e here
    go y k j (no n) = other y n ∙ I.done y k (sym (out_other left left' x W y n) ∙ j)

pub widening_over : (env₀ env : List Row) (to left s : Roots) → ((x : ℕ) → has left x ≡ false) → Widening env₀ to left s env → WidenedAll env₀ to s env
widening_over env₀ env to left s h I = record { in_set = λ x k. I.done x k (h x); out_of_set = I.out; links = I.links }

-- ---- a write, by the set of the variables

module _ (n : ℕ) (f : ℕ → Bool) (low : (y : ℕ) → f y ≡ true → y < n) (long : ℕ → ℕ) (m : ℕ) where
  -- One alone: any two are the same.
  single_once : (ps : List Place) → single ps ≡ true → (p q : Place) → Among p ps → Among q ps → p ≡ q
  single_once [] h p q i j = absurd i
  single_once (r ∷ []) h p q i j = alone i j
    where
      alone : (p ≡ r) ⊎ ⊥ → (q ≡ r) ⊎ ⊥ → p ≡ q
      alone (inl a) (inl b) = a ∙ sym b
      alone (inl a) (inr b) = absurd b
      alone (inr a) b = absurd a
  single_once (r ∷ s ∷ ps) h p q i j = absurd (false≢true h)

  single_set : single (places_of n f long m) ≡ true → (x y : ℕ) → f x ≡ true → f y ≡ true → x ≡ y
  unfolding places_of
  single_set h x y e k =
      ap (λ (p : Place). p.root) (single_once (places_from f long m 0 n) h (place_at long m x) (place_at long m y)
      (from_in f long m 0 n x (omega arith) (let z = low x e in omega arith) e)
      (from_in f long m 0 n y (omega arith) (let z = low y k in omega arith) k))

pub write_one : (Γ : Environment) (x r : ℕ) (b : Borrow) (y : ℕ) → write Γ (place x r ∷ []) b y ≡ update Γ x (refilled (Γ x) b) y
unfolding write rooted some_of update
write_one Γ x r b y = go (eqb x y) refl
  where
    go : (c : Bool) → eqb x y ≡ c → pick (pick c true false) (refilled (Γ y) b) (Γ y) ≡ pick c (refilled (Γ x) b) (Γ y)
    go true e = ap (λ (z : ℕ). refilled (Γ z) b) (sym (eqb-true x y e))
    go false e = refl

module _ (env env' : List Row) (n : ℕ) (to s : Roots) (low : (y : ℕ) → has to y ≡ true → y < n) where
  pub written_none : is_empty to ≡ true → Written env n to s env
  unfolding write
  written_none h = record {
    is = λ b m k. fun_ext (λ y.
        let qs = places_of n (has to) (lengths (environment_of env)) m in
        ap (λ (c : Bool). pick c (pick (single qs) (refilled (environment_of env y) b) (widened (environment_of env y) b)) (environment_of env y))
        (sym (rooted_places (has to) (lengths (environment_of env)) m n y (low y) ∙ none_in to h y)));
    links = λ y. refl;
  }

  module _ (rest : Roots) (x : ℕ) (i : has to x ≡ true) (W : Without to x rest) where
    pub written_one : is_empty rest ≡ true → environment_of env' ≡ update (environment_of env) x (refilled (environment_of env x) (end_in env (chain_of (links_at env x)) s)) → SameLinks env env'
        → Written env n to s env'
    written_one h E L = record {
      is = λ b m k. fun_ext (λ y.
          ap (λ (Γ : Environment). Γ y) E
          ∙ ap (λ (c : Borrow). update (environment_of env) x (refilled (environment_of env x) c) y) (k x i)
          ∙ sym (write_one (environment_of env) x (lengths (environment_of env) x - m) b y)
          ∙ ap (λ (qs : List Place). write (environment_of env) qs b y) (only_one m));
      links = L;
    }
      where
        alone : (y : ℕ) → has to y ≡ eqb x y
        alone y = same_bool (has to y) (eqb x y) (λ j. go j (ℕ_discrete x y)) (λ e. ap (has to) (sym (eqb-true x y e)) ∙ i)
          where
            go : has to y ≡ true → Dec (x ≡ y) → eqb x y ≡ true
            go j (yes e) = eq-eqb x y e
            go j (no d) = absurd (true≢false (sym j ∙ sym (out_other to rest x W y d) ∙ none_in rest h y))

        only_one : (m : ℕ) → place x (lengths (environment_of env) x - m) ∷ [] ≡ places_of n (has to) (lengths (environment_of env)) m
        only_one m =
            one_place n (place x (lengths (environment_of env) x - m)) (lengths (environment_of env)) m (low x i) refl
            ∙ same_roots n (eqb x) (has to) (lengths (environment_of env)) (lengths (environment_of env)) m (λ y. sym (alone y)) (λ y j. refl)

    pub written_several : rest.low < 2 ^ 64 → rest.high < 2 ^ 64 → is_empty rest ≡ false → WidenedAll env to s env' → Written env n to s env'
    unfolding write
    written_several l g h E = record {
      is = λ b m k. fun_ext (λ y.
          let qs = places_of n (has to) (lengths (environment_of env)) m in
          at b y (λ j. k y j) (has to y) refl
          ∙ ap₂ (λ (c d : Bool). pick c (pick d (refilled (environment_of env y) b) (widened (environment_of env y) b)) (environment_of env y))
          (sym (rooted_places (has to) (lengths (environment_of env)) m n y (low y))) (sym (not_single m (single qs) refl)));
      links = E.links;
    }
      where
        at : (b : Borrow) (y : ℕ) → (has to y ≡ true → end_in env (chain_of (links_at env y)) s ≡ b) → (c : Bool) → has to y ≡ c
            → environment_of env' y ≡ pick c (widened (environment_of env y) b) (environment_of env y)
        at b y k true e = E.in_set y e ∙ ap (λ (d : Borrow). widened (environment_of env y) d) (k e)
        at b y k false e = E.out_of_set y e

        not_single : (m : ℕ) (c : Bool) → single (places_of n (has to) (lengths (environment_of env)) m) ≡ c → c ≡ false
        not_single m true e = absurd (true≢false (sym (some_in rest l g (λ y. none y (has rest y) refl)) ∙ h))
          where
            none : (y : ℕ) (c : Bool) → has rest y ≡ c → c ≡ false
            none y true j =
                let o = out_kept to rest x W y j in
                absurd (o.0 (single_set n (has to) low (lengths (environment_of env)) m e x y i o.1))
            none y false j = refl
        not_single m false e = refl
