-- Who is in use: those named later, and roots of what one in use holds. As many steps as there are variables are enough.
use Prim.Native.Nat.{ℕ, zero, suc, ◌+◌, ◌-◌, ◌≤◌, ◌<◌}
use native.Mathlib.Omega.{arith}
use native.Mathlib.Decide.{ℕ_discrete, dec_le, dec_lt}
use mathlib.Core.Path.{◌≡◌, refl, sym, ap, ap₂, ◌∙◌, subst}
use mathlib.Core.Logic.{◌⊎◌, inl, inr}
use mathlib.Core.Bool.{Bool, true, false, false≢true, true≢false}
use Rattle.syntax.specs.Result.{pick}
use Rattle.statics.specs.Environment.{Borrow, Variable, Slot, free, used, live, Environment, holding}
use Rattle.statics.specs.Uses.{Unfinished, named_later}
use Rattle.statics.specs.Bars.{borrows_any, held_by, held, reachable, in_use, InUse, named, by_holder}
use Rattle.statics.proofs.Answers.{same_bool}
use Rattle.statics.proofs.Pigeon.{pigeon}

-- Who holds is in scope, and its borrow is such.
pub held_out : (h : Borrow → ℕ → Bool) (sl : Slot) (x : ℕ) → held_by h sl x ≡ true → (v : Variable) × (sl ≡ live v) × (h v.borrow x ≡ true)
unfolding held_by
held_out h free x e = absurd (false≢true e)
held_out h used x e = absurd (false≢true e)
held_out h (live v) x e = go (holding v) e
  where
    go : (b : Bool) → pick b (h v.borrow x) false ≡ true → (u : Variable) × (live v ≡ live u) × (h u.borrow x ≡ true)
    go true k = (v, refl, k)
    go false k = absurd (false≢true k)

boolean : (b : Bool) → (b ≡ true) ⊎ (b ≡ false)
boolean true = inl refl
boolean false = inr refl

module _ (h : Borrow → ℕ → Bool) (these : ℕ → Bool) (Γ : Environment) (x : ℕ) where
  abbrev One : Bool → Bool → Bool → Bool
  One a b c = elim a [ true ↦ elim b [ true ↦ true | false ↦ c ] | false ↦ c ]

  pub holder_counts : (n y : ℕ) → y < n → held_by h (Γ y) x ≡ true → these y ≡ true → held h these n Γ x ≡ true
  unfolding held
  holder_counts zero y l e f = absurd (omega arith)
  holder_counts (suc n) y l e f = go (λ k. holder_counts n y k e f) (ℕ_discrete y n) (held_by h (Γ n) x) refl (these n) refl
    where
      go : (y < n → held h these n Γ x ≡ true) → Dec (y ≡ n) → (a : Bool) → held_by h (Γ n) x ≡ a → (b : Bool) → these n ≡ b → One a b (held h these n Γ x) ≡ true
      go ih (yes q) true u true w = refl
      go ih (yes q) true u false w = absurd (true≢false (sym f ∙ ap these q ∙ w))
      go ih (yes q) false u b w = absurd (true≢false (sym e ∙ ap (λ (k : ℕ). held_by h (Γ k) x) q ∙ u))
      go ih (no q) true u true w = refl
      go ih (no q) true u false w = ih (omega arith)
      go ih (no q) false u b w = ih (omega arith)

  pub held_not : (n y : ℕ) → held h these n Γ x ≡ false → y < n → these y ≡ true → held_by h (Γ y) x ≡ false
  held_not n y e l f = go (boolean (held_by h (Γ y) x))
    where
      go : (held_by h (Γ y) x ≡ true) ⊎ (held_by h (Γ y) x ≡ false) → held_by h (Γ y) x ≡ false
      go (inl k) = absurd (true≢false (sym (holder_counts n y l k f) ∙ e))
      go (inr k) = k

  pub held_some : (n : ℕ) → held h these n Γ x ≡ true → (y : ℕ) × (y < n) × (held_by h (Γ y) x ≡ true) × (these y ≡ true)
  unfolding held
  held_some zero e = absurd (false≢true e)
  held_some (suc n) e = go (λ k. held_some n k) (held_by h (Γ n) x) refl (these n) refl e
    where
      more : (y : ℕ) × (y < n) × (held_by h (Γ y) x ≡ true) × (these y ≡ true) → (y : ℕ) × (y < suc n) × (held_by h (Γ y) x ≡ true) × (these y ≡ true)
      more k = (k.0, omega (arith, k.1), k.2, k.3)

      go : (held h these n Γ x ≡ true → (y : ℕ) × (y < n) × (held_by h (Γ y) x ≡ true) × (these y ≡ true)) → (a : Bool) → held_by h (Γ n) x ≡ a
          → (b : Bool) → these n ≡ b → One a b (held h these n Γ x) ≡ true → (y : ℕ) × (y < suc n) × (held_by h (Γ y) x ≡ true) × (these y ≡ true)
      go ih true u true w k = (n, omega arith, u, w)
      go ih true u false w k = more (ih k)
      go ih false u b w k = more (ih k)

-- Only those asked count.
pub held_same : (h : Borrow → ℕ → Bool) (Γ : Environment) (x : ℕ) (f g : ℕ → Bool) (n : ℕ) → ((y : ℕ) → y < n → f y ≡ g y) → held h f n Γ x ≡ held h g n Γ x
unfolding held
held_same h Γ x f g zero e = refl
held_same h Γ x f g (suc n) e =
    ap₂ (λ (b c : Bool). elim (held_by h (Γ n) x) [ true ↦ elim b [ true ↦ true | false ↦ c ] | false ↦ c ]) (e n (omega arith)) (held_same h Γ x f g n (λ y l. e y (omega arith)))

module _ (b : ℕ → Bool) (nv : ℕ) (Γ : Environment) where
  -- y holds a place rooted in x.
  abbrev Edge : ℕ → ℕ → Type 0
  Edge y x = held_by borrows_any (Γ y) x ≡ true

  abbrev In : ℕ → ℕ → Type 0
  In k x = reachable b nv k Γ x ≡ true

  from_base : (k x : ℕ) → b x ≡ true → In (suc k) x
  unfolding reachable
  from_base k x e = go (b x) e
    where
      go : (c : Bool) → c ≡ true → elim c [ true ↦ true | false ↦ held borrows_any (λ y. reachable b nv k Γ y) nv Γ x ] ≡ true
      go true q = refl
      go false q = absurd (false≢true q)

  from_step : (k y x : ℕ) → y < nv → Edge y x → In k y → In (suc k) x
  unfolding reachable
  from_step k y x l e u = go (b x)
    where
      go : (c : Bool) → elim c [ true ↦ true | false ↦ held borrows_any (λ y. reachable b nv k Γ y) nv Γ x ] ≡ true
      go true = refl
      go false = holder_counts borrows_any (λ y. reachable b nv k Γ y) Γ x nv y l e u

  came : (k x : ℕ) → In (suc k) x → (b x ≡ true) ⊎ ((y : ℕ) × (y < nv) × (Edge y x) × (In k y))
  unfolding reachable
  came k x e = go (b x) refl e
    where
      go : (c : Bool) → b x ≡ c → elim c [ true ↦ true | false ↦ held borrows_any (λ y. reachable b nv k Γ y) nv Γ x ] ≡ true
          → (b x ≡ true) ⊎ ((y : ℕ) × (y < nv) × (Edge y x) × (In k y))
      go true q w = inl q
      go false q w = inr (held_some borrows_any (λ y. reachable b nv k Γ y) Γ x nv w)

  -- The least such set.
  reachable_least : (P : ℕ → Type 0) → ((x : ℕ) → b x ≡ true → P x) → ((y x : ℕ) → y < nv → Edge y x → P y → P x) → (k x : ℕ) → In k x → P x
  unfolding reachable
  reachable_least P pb ps zero x e = absurd (false≢true e)
  reachable_least P pb ps (suc k) x e = go (λ y. reachable_least P pb ps k y) (came k x e)
    where
      go : ((y : ℕ) → In k y → P y) → (b x ≡ true) ⊎ ((y : ℕ) × (y < nv) × (Edge y x) × (In k y)) → P x
      go ih (inl q) = pb x q
      go ih (inr r) = ps r.0 x r.1 r.2 (ih r.0 r.3)

  one_more : (k x : ℕ) → In k x → In (suc k) x
  unfolding reachable
  one_more zero x e = absurd (false≢true e)
  one_more (suc k) x e = go (λ y. one_more k y) (came k x e)
    where
      go : ((y : ℕ) → In k y → In (suc k) y) → (b x ≡ true) ⊎ ((y : ℕ) × (y < nv) × (Edge y x) × (In k y)) → In (suc (suc k)) x
      go ih (inl q) = from_base (suc k) x q
      go ih (inr r) = from_step (suc k) r.0 x r.1 r.2 (ih r.0 r.3)

  some_more : (j k x : ℕ) → In k x → In (j + k) x
  some_more zero k x e = subst (λ (m : ℕ). In m x) (omega arith) e
  some_more (suc j) k x e = subst (λ (m : ℕ). In m x) (omega arith) (one_more (j + k) x (some_more j k x e))

  -- f i is reached in i + 1 steps and not in i.
  NewAt : ℕ → (ℕ → ℕ) → Type 0
  NewAt k f = (i : ℕ) → i ≤ k → (f i < nv) × (In (suc i) (f i)) × (reachable b nv i Γ (f i) ≡ false)

  new_at : (k x : ℕ) → x < nv → In (suc k) x → reachable b nv k Γ x ≡ false → (f : ℕ → ℕ) × NewAt k f
  unfolding NewAt
  new_at zero x l e n = (λ i. x, λ i h. (l, subst (λ (m : ℕ). In (suc m) x) (omega arith) e, subst (λ (m : ℕ). reachable b nv m Γ x ≡ false) (omega arith) n))
  new_at (suc k) x l e n = go (λ y. new_at k y) (came (suc k) x e)
    where
      go : ((y : ℕ) → y < nv → In (suc k) y → reachable b nv k Γ y ≡ false → (f : ℕ → ℕ) × NewAt k f)
          → (b x ≡ true) ⊎ ((y : ℕ) × (y < nv) × (Edge y x) × (In (suc k) y)) → (f : ℕ → ℕ) × NewAt (suc k) f
      go ih (inl q) = absurd (true≢false (sym (from_base k x q) ∙ n))
      go ih (inr r) = with_y (boolean (reachable b nv k Γ r.0))
        where
          with_y : (In k r.0) ⊎ (reachable b nv k Γ r.0 ≡ false) → (f : ℕ → ℕ) × NewAt (suc k) f
          with_y (inl w) = absurd (true≢false (sym (from_step k r.0 x r.1 r.2 w) ∙ n))
          with_y (inr w) = join (ih r.0 r.1 r.3 w)
            where
              join : (f : ℕ → ℕ) × NewAt k f → (f : ℕ → ℕ) × NewAt (suc k) f
              join F = (λ i. at i (dec_le i k), λ i h. step i h (dec_le i k))
                where
                  at : (i : ℕ) → Dec (i ≤ k) → ℕ
                  at i (yes h) = F.0 i
                  at i (no h) = x

                  step : (i : ℕ) → i ≤ suc k → (d : Dec (i ≤ k)) → (at i d < nv) × (In (suc i) (at i d)) × (reachable b nv i Γ (at i d) ≡ false)
                  step i h (yes q) = F.1 i q
                  step i h (no q) = let z : i ≡ suc k = omega arith in (l, rw z e, rw z n)

  enough : (x : ℕ) → x < nv → In (suc nv) x → In nv x
  unfolding NewAt
  enough x l e = go (boolean (reachable b nv nv Γ x))
    where
      go : (In nv x) ⊎ (reachable b nv nv Γ x ≡ false) → In nv x
      go (inl q) = q
      go (inr q) =
          let L = new_at nv x l e q in
          absurd (let z = pigeon nv (suc nv) L.0 (λ i h. (L.1 i (omega arith)).0) (inj L.0 L.1) in omega arith)
        where
          inj : (f : ℕ → ℕ) → NewAt nv f → (i j : ℕ) → i < suc nv → j < suc nv → f i ≡ f j → i ≡ j
          inj f F i j hi hj q = order (dec_lt i j) (dec_lt j i)
            where
              not_below : (i j : ℕ) → i < j → i < suc nv → j < suc nv → f i ≡ f j → ⊥
              not_below i j lt hi hj q =
                  let u = some_more (j - suc i) (suc i) (f i) (F i (omega arith)).1 in
                  let w : In j (f i) = subst (λ (m : ℕ). In m (f i)) (omega arith) u in
                  true≢false (sym w ∙ ap (λ (y : ℕ). reachable b nv j Γ y) q ∙ (F j (omega arith)).2)

              order : Dec (i < j) → Dec (j < i) → i ≡ j
              order (yes a) d = absurd (not_below i j a hi hj q)
              order (no a) (yes d) = absurd (not_below j i d hj hi (sym q))
              order (no a) (no d) = omega arith

module _ (nv : ℕ) (ns : Unfinished) (Γ : Environment) where
  pub in_use_named : (x : ℕ) → x < nv → named_later ns x ≡ true → in_use nv ns Γ x ≡ true
  unfolding in_use
  in_use_named x l e = subst (λ (k : ℕ). reachable (λ y. named_later ns y) nv k Γ x ≡ true) (omega arith) (from_base (λ y. named_later ns y) nv Γ (nv - 1) x e)

  pub in_use_held : (y x : ℕ) → y < nv → x < nv → held_by borrows_any (Γ y) x ≡ true → in_use nv ns Γ y ≡ true → in_use nv ns Γ x ≡ true
  unfolding in_use
  in_use_held y x l k e u = enough (λ y. named_later ns y) nv Γ x k (from_step (λ y. named_later ns y) nv Γ nv y x l e u)

  -- The least such set: two that only hold each other are not in it (LANGUAGE 3.34).
  pub in_use_least : (P : ℕ → Type 0) → ((x : ℕ) → named_later ns x ≡ true → P x)
      → ((y x : ℕ) → y < nv → held_by borrows_any (Γ y) x ≡ true → P y → P x) → (x : ℕ) → in_use nv ns Γ x ≡ true → P x
  unfolding in_use
  in_use_least P pb ps x e = reachable_least (λ y. named_later ns y) nv Γ P pb ps nv x e

  -- These are those of the least set, without a bound, where those in scope are below the number of variables.
  pub in_use_is : (low : (x : ℕ) (v : Variable) → Γ x ≡ live v → x < nv) → (x : ℕ) → x < nv → (in_use nv ns Γ x ≡ true → InUse ns Γ x) × (InUse ns Γ x → in_use nv ns Γ x ≡ true)
  in_use_is low x l = (in_use_least (InUse ns Γ) (λ y e. named e) (λ y z b e u. by_holder e u) x, λ u. back x l u)
    where
      back : (x : ℕ) → x < nv → InUse ns Γ x → in_use nv ns Γ x ≡ true
      back x l (named e) = in_use_named x l e
      back x l (by_holder {y} e u) = let v = held_out borrows_any (Γ y) x e in let w = low y v.0 v.1 in in_use_held y x w l e (back y w u)

  -- The bound decides nothing: a greater one gives the same.
  pub in_use_bound : (k : ℕ) → nv ≤ k → (x : ℕ) → x < nv → reachable (λ y. named_later ns y) nv k Γ x ≡ in_use nv ns Γ x
  unfolding in_use
  in_use_bound k le x l = same_bool (reachable (λ y. named_later ns y) nv k Γ x) (reachable (λ y. named_later ns y) nv nv Γ x)
      (λ e. reachable_least (λ y. named_later ns y) nv Γ (λ y. y < nv → in_use nv ns Γ y ≡ true) (λ y n b. in_use_named y b n) (λ y z b e u c. in_use_held y z b c e (u b)) k x e l)
      (λ e. subst (λ (j : ℕ). reachable (λ y. named_later ns y) nv j Γ x ≡ true) (omega arith) (some_more (λ y. named_later ns y) nv Γ (k - nv) nv x e))
