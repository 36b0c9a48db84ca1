-- Words of the table put, and tables whose words agree: they say the same environment. Assumes nothing.
use Prim.Native.Nat.{ℕ, zero, suc, ◌+◌, ◌%◌, ◌<◌, ◌≤◌, max}
use native.Mathlib.Nat.{max-eq_left, max-eq_right}
use native.Mathlib.Omega.{arith}
use native.Mathlib.Numerals.{add-one}
use native.Mathlib.Decide.{ℕ_discrete}
use mathlib.Core.Path.{◌≡◌, refl, sym, ap, ap₂, ◌∙◌, subst, fun_ext}
use mathlib.Core.Bool.{Bool, true, false, true≢false, ◌&&◌}
use mathlib.Core.List.{List, [], ◌∷◌}
use lib.Dec.{eqb, ltb}
use lib.ListN.{length}
use borrow.Author.Tests.{eqb-true, eq-eqb, ne_eqb, ltb-true, ltb-false}
use Rattle.syntax.specs.Result.{pick}
use Rattle.syntax.specs.Script.{Place}
use Rattle.variables.specs.declared.table.Row.{Row}
use Rattle.variables.specs.declared.roots.Roots.{Roots}
use Rattle.statics.specs.Links.{Link, boxed, shared, exclusive}
use Rattle.statics.specs.Places.{rooted}
use Rattle.statics.specs.Environment.{places, borrow_end, shared_of, exclusive_of, Variable, Slot, free, used, live, update}
use Rattle.statics.specs.Roots.{left}
use Rattle.variables.specs.Chains.{chain_of}
use Rattle.variables.specs.Masks.{has}
use Rattle.variables.specs.Table.{entry_word, links_at, long_at, roots_at, holders_at, places_in, end_in, variable_at, slot_as, environment_of, MemberAdded, put_at, put_set, raised}
use Rattle.statics.proofs.RootLaws.{same_roots, rooted_places}
use Rattle.variables.proofs.TableLaws.{put_there, Put, PutSet, SameEntry}

-- ---- words put

abbrev set_of : ℕ → ℕ → Roots
set_of l h = record { low = l; high = h }

module _ (words : ℕ → ℕ → ℕ) (x k word : ℕ) where
  pub put_elsewhere : (y j : ℕ) → (x ≡ y → k ≡ j → ⊥) → put_at words x k word y j ≡ words y j
  unfolding put_at
  put_elsewhere y j h = go (eqb x y) (eqb k j) refl refl
    where
      go : (a b : Bool) → eqb x y ≡ a → eqb k j ≡ b → pick (a && b) word (words y j) ≡ words y j
      go true true e f = absurd (h (eqb-true x y e) (eqb-true k j f))
      go true false e f = refl
      go false b e f = refl

module _ (env env' : List Row) (x k word : ℕ) (P : Put env x k word env') where
  pub put_at_law : k < 9 → entry_word env' x k ≡ word
  put_at_law h = P x k h ∙ put_there (entry_word env) x k word

  pub put_off : (y j : ℕ) → j < 9 → (x ≡ y → k ≡ j → ⊥) → entry_word env' y j ≡ entry_word env y j
  put_off y j h n = P y j h ∙ put_elsewhere (entry_word env) x k word y j n

module _ (env env' : List Row) (x k : ℕ) (s : Roots) (P : PutSet env x k s env') where
  set_low : k < 4 → entry_word env' x k ≡ s.low
  set_low h =
      P x k (omega arith)
      ∙ put_elsewhere (put_at (entry_word env) x k s.low) x (k + 4) s.high x k (λ p q. omega arith)
      ∙ put_there (entry_word env) x k s.low

  set_high : k < 4 → entry_word env' x (k + 4) ≡ s.high
  set_high h = P x (k + 4) (omega arith) ∙ put_there (put_at (entry_word env) x k s.low) x (k + 4) s.high

  pub set_off : (y j : ℕ) → j < 9 → (x ≡ y → k ≡ j → ⊥) → (x ≡ y → k + 4 ≡ j → ⊥) → entry_word env' y j ≡ entry_word env y j
  set_off y j h n m =
      P y j h
      ∙ put_elsewhere (put_at (entry_word env) x k s.low) x (k + 4) s.high y j m
      ∙ put_elsewhere (entry_word env) x k s.low y j n

pub roots_put : (env env' : List Row) (x : ℕ) (s : Roots) → PutSet env x 2 s env' → roots_at env' x ≡ s
roots_put env env' x s P = ap₂ set_of (set_low env env' x 2 s P (omega arith)) (set_high env env' x 2 s P (omega arith))

pub holders_put : (env env' : List Row) (x : ℕ) (s : Roots) → PutSet env x 3 s env' → holders_at env' x ≡ s
holders_put env env' x s P = ap₂ set_of (set_low env env' x 3 s P (omega arith)) (set_high env env' x 3 s P (omega arith))

-- x is added to the set of a row: what the row had is put again with x.
pub member_added : (env env' : List Row) (row x : ℕ) (old one all : Roots) → old ≡ roots_at env row → ((y : ℕ) → has one y ≡ eqb x y)
    → ((y : ℕ) → has all y ≡ pick (has old y) true (has one y)) → PutSet env row 2 all env' → MemberAdded env row x env'
member_added env env' row x old one all read own more put =
    record {
      others = λ y k l h. set_off env env' row 2 all put y k l (λ p q. (h (sym p)).0 (sym q)) (λ p q. (h (sym p)).1 (sym q));
      members = λ y. ap (λ (s : Roots). has s y) (roots_put env env' row all put) ∙ more y ∙ ap₂ (λ (s : Roots) (b : Bool). pick (has s y) true b) read (own y);
    }

-- A note is raised to the greater of the two.
pub raised_greater : (words : ℕ → ℕ → ℕ) (row least higher y j : ℕ) → higher ≡ max (words row 8) least → put_at words row 8 higher y j ≡ raised words row least y j
unfolding raised put_at
raised_greater words row least higher y j e = go (ltb (words row 8) least) refl (eqb row y) (eqb 8 j) refl refl
  where
    go : (b : Bool) → ltb (words row 8) least ≡ b → (p q : Bool) → eqb row y ≡ p → eqb 8 j ≡ q
        → pick (p && q) higher (words y j) ≡ pick b (λ (z i : ℕ). pick (eqb row z && eqb 8 i) least (words z i)) words y j
    go true k p q f g =
        let l = ltb-true (words row 8) least k in
        rw (f, g) (ap (λ (w : ℕ). pick (p && q) w (words y j)) (e ∙ max-eq_right (omega arith)))
    go false k true true f g = e ∙ max-eq_left (ltb-false (words row 8) least k) ∙ ap₂ words (eqb-true row y f) (eqb-true 8 j g)
    go false k true false f g = refl
    go false k false q f g = refl

-- What a function that raises a note leaves.
abbrev pub Raised : List Row → ℕ → ℕ → List Row → Type 0
Raised env row least env' = (y j : ℕ) → j < 9 → entry_word env' y j ≡ raised (entry_word env) row least y j

module _ (env env' : List Row) (row least : ℕ) (R : Raised env row least env') where
  pub raised_off : (y j : ℕ) → j < 9 → (row ≡ y → 8 ≡ j → ⊥) → entry_word env' y j ≡ entry_word env y j
  unfolding raised
  raised_off y j h n = R y j h ∙ go (ltb (entry_word env row 8) least)
    where
      go : (b : Bool) → pick b (put_at (entry_word env) row 8 least) (entry_word env) y j ≡ entry_word env y j
      go true = put_elsewhere (entry_word env) row 8 least y j n
      go false = refl

  -- No less than before, no less than asked, and no more than either.
  pub raised_there : (entry_word env row 8 ≤ entry_word env' row 8) × (least ≤ entry_word env' row 8)
      × ((b : ℕ) → entry_word env row 8 ≤ b → least ≤ b → entry_word env' row 8 ≤ b)
  unfolding raised
  raised_there = go (ltb (entry_word env row 8) least) refl (R row 8 (omega arith))
    where
      go : (b : Bool) → ltb (entry_word env row 8) least ≡ b → entry_word env' row 8 ≡ pick b (put_at (entry_word env) row 8 least) (entry_word env) row 8
          → (entry_word env row 8 ≤ entry_word env' row 8) × (least ≤ entry_word env' row 8) × ((b : ℕ) → entry_word env row 8 ≤ b → least ≤ b → entry_word env' row 8 ≤ b)
      go true e q =
          let z : entry_word env' row 8 ≡ least = q ∙ put_there (entry_word env) row 8 least in
          let l = ltb-true (entry_word env row 8) least e in
          (omega arith, omega arith, λ b h k. omega arith)
      go false e q =
          let l = ltb-false (entry_word env row 8) least e in
          (omega arith, omega arith, λ b h k. omega arith)

-- The code counts the rows up.
pub raised_next : (env env' : List Row) (n x : ℕ) → Raised env (n + 1) (x + 1) env' → Raised env (suc n) (suc x) env'
raised_next env env' n x R = subst (λ (k : ℕ). Raised env k (suc x) env') (add-one n) (subst (λ (k : ℕ). Raised env (n + 1) k env') (add-one x) R)

-- ---- words that agree

pub roots_same : (env env' : List Row) (y : ℕ) → entry_word env' y 2 ≡ entry_word env y 2 → entry_word env' y 6 ≡ entry_word env y 6 → roots_at env' y ≡ roots_at env y
roots_same env env' y l h = ap₂ set_of l h

pub holders_same : (env env' : List Row) (y : ℕ) → entry_word env' y 3 ≡ entry_word env y 3 → entry_word env' y 7 ≡ entry_word env y 7 → holders_at env' y ≡ holders_at env y
holders_same env env' y l h = ap₂ set_of l h

pub links_same : (env env' : List Row) (y : ℕ) → entry_word env' y 1 ≡ entry_word env y 1 → links_at env' y ≡ links_at env y
links_same env env' y e = e

pub entry_links : (env env' : List Row) (y : ℕ) → SameEntry env env' y → links_at env' y ≡ links_at env y
entry_links env env' y h = links_same env env' y (h 1 (omega arith) (λ e. omega arith) (λ e. omega arith))

pub entry_roots : (env env' : List Row) (y : ℕ) → SameEntry env env' y → roots_at env' y ≡ roots_at env y
entry_roots env env' y h = roots_same env env' y (h 2 (omega arith) (λ e. omega arith) (λ e. omega arith)) (h 6 (omega arith) (λ e. omega arith) (λ e. omega arith))

-- A borrow end does not change where the links of its roots do not.
pub end_same : (env env' : List Row) (ks : List Link) (s s' : Roots) → ((y : ℕ) → has s' y ≡ has s y) → ((y : ℕ) → has s y ≡ true → links_at env' y ≡ links_at env y)
    → end_in env' ks s' ≡ end_in env ks s
end_same env env' ks s s' h k =
    ap (borrow_end ks) (same_roots 128 (has s') (has s) (long_at env') (long_at env) (left ks) h (λ y e. ap (λ (l : ℕ). length (chain_of l)) (k y e)))

-- Nor where the variable whose links change is no root of it: without a borrow link there is no place, with one all of them count.
same_but : (x : ℕ) (ks : List Link) (ps qs : List Place) → rooted (places (borrow_end ks ps)) x ≡ false → (rooted ps x ≡ false → qs ≡ ps) → borrow_end ks qs ≡ borrow_end ks ps
unfolding borrow_end
same_but x [] ps qs h k = refl
same_but x (boxed ∷ ks) ps qs h k = same_but x ks ps qs h k
same_but x (shared ∷ ks) ps qs h k = ap shared_of (k h)
same_but x (exclusive ∷ ks) ps qs h k = ap exclusive_of (k h)

pub end_same_but : (env env' : List Row) (x : ℕ) → x < 128 → ((y : ℕ) → (x ≡ y → ⊥) → links_at env' y ≡ links_at env y)
    → (ks : List Link) (s : Roots) → rooted (places (end_in env ks s)) x ≡ false → end_in env' ks s ≡ end_in env ks s
end_same_but env env' x l links ks s h =
    same_but x ks (places_in env ks s) (places_in env' ks s) h
    (λ e. let out : has s x ≡ false = sym (rooted_places (has s) (long_at env) (left ks) 128 x (λ h. l)) ∙ e in
    same_roots 128 (has s) (has s) (long_at env') (long_at env) (left ks) (λ y. refl)
    (λ y m. ap (λ (l : ℕ). length (chain_of l)) (links y (λ q. true≢false (sym m ∙ ap (has s) (sym q) ∙ out)))))

-- Of what is not in scope the other words say nothing.
slot_by : (s : ℕ) (v w : Variable) → (2 ≤ s → w ≡ v) → slot_as s w ≡ slot_as s v
unfolding slot_as
slot_by zero v w h = refl
slot_by (suc zero) v w h = refl
slot_by (suc (suc n)) v w h = ap (slot_as (suc (suc n))) (h (omega arith))

pub slot_same : (env env' : List Row) (y : ℕ) → SameEntry env env' y
    → (2 ≤ entry_word env y 0 → end_in env' (chain_of (links_at env y)) (roots_at env y) ≡ end_in env (chain_of (links_at env y)) (roots_at env y))
    → environment_of env' y ≡ environment_of env y
unfolding environment_of
slot_same env env' y S e =
    ap (λ (s : ℕ). slot_as s (variable_at env' y)) (S 0 (omega arith) (λ q. omega arith) (λ q. omega arith))
    ∙ slot_by (entry_word env y 0) (variable_at env y) (variable_at env' y) (λ h.
    rw (
      entry_links env env' y S,
      S 4 (omega arith) (λ q. omega arith) (λ q. omega arith),
      S 5 (omega arith) (λ q. omega arith) (λ q. omega arith),
      entry_roots env env' y S,
      e h,
    ))

-- All but one say the same.
pub updated : (env env' : List Row) (x : ℕ) (s : Slot) → ((y : ℕ) → (x ≡ y → ⊥) → environment_of env' y ≡ environment_of env y) → environment_of env' x ≡ s
    → environment_of env' ≡ update (environment_of env) x s
unfolding update
updated env env' x s h k = fun_ext λ y. go y (ℕ_discrete x y)
  where
    go : (y : ℕ) → Dec (x ≡ y) → environment_of env' y ≡ pick (eqb x y) s (environment_of env y)
    go y (yes e) = ap (environment_of env') (sym e) ∙ k ∙ sym (ap (λ (b : Bool). pick b s (environment_of env y)) (eq-eqb x y e))
    go y (no e) = h y e ∙ sym (ap (λ (b : Bool). pick b s (environment_of env y)) (ne_eqb x y e))

-- What is done to a number by its status, with the links of all as before.
pub slot_changed : (f : Slot → Slot) (v w : Variable) → f free ≡ free → f used ≡ used → f (live v) ≡ live w → (s : ℕ) → slot_as s w ≡ f (slot_as s v)
unfolding slot_as
slot_changed f v w a b c zero = sym a
slot_changed f v w a b c (suc zero) = sym b
slot_changed f v w a b c (suc (suc n)) = rw (ne_eqb (suc (suc n)) 0 (omega arith), ne_eqb (suc (suc n)) 1 (omega arith)) (sym c)
