-- A write that may land in several variables (LANGUAGE 3.25): what the judge then knows stands for more than what is so after the one that it
-- landed in.
use Prim.Native.Nat.{ℕ}
use native.Mathlib.Decide.{ℕ_discrete}
use mathlib.Core.Path.{◌≡◌, refl, sym, ap, ◌∙◌, subst}
use mathlib.Core.Logic.{◌≢◌, ◌⊎◌, inl, inr}
use mathlib.Core.Bool.{Bool, true, false, false≢true}
use mathlib.Core.List.{List, [], ◌∷◌}
use lib.Dec.{eqb}
use borrow.Author.Tests.{eqb-true}
use Rattle.syntax.specs.Result.{pick}
use Rattle.syntax.specs.Script.{Place}
use Rattle.statics.specs.Places.{some_of, rooted}
use Rattle.statics.specs.Environment.{Borrow, Variable, Slot, free, used, live, Environment, update, fresh, refilled, wider, widened, single, write}
use Rattle.statics.specs.Neat.{place, Among}
use Rattle.statics.proofs.Slots.{free≢live, used≢live, update_same, update_other}
use Rattle.statics.proofs.SetLaws.{rooted_in}
use Rattle.safety.proofs.Widening.{Wide, wide_same, wide_old}
use Rattle.safety.proofs.Wider.{Wider}

-- If there is one place, a root among them is its root.
alone : (c d x : ℕ) (qs : List Place) → Among (place c d) qs → single qs ≡ true → rooted qs x ≡ true → x ≡ c
unfolding rooted some_of
alone c d x [] i s h = absurd i
alone c d x (q ∷ []) (inl e) s h = go (eqb q.root x) refl h
  where
    go : (b : Bool) → eqb q.root x ≡ b → pick b true false ≡ true → x ≡ c
    go true k j = sym (eqb-true _ _ k) ∙ ap (λ (y : Place). y.root) (sym e)
    go false k j = absurd (false≢true j)
alone c d x (q ∷ []) (inr e) s h = absurd e
alone c d x (q ∷ k ∷ qs) i s h = absurd (false≢true s)

module _ (Γ : Environment) (qs : List Place) (b : Borrow) (c d : ℕ) (among : Among (place c d) qs) where
  write_other : (x : ℕ) → x ≢ c → (write Γ qs b x ≡ Γ x) ⊎ (write Γ qs b x ≡ widened (Γ x) b)
  unfolding write
  write_other x n = go (rooted qs x) refl (single qs) refl
    where
      go : (m : Bool) → rooted qs x ≡ m → (k : Bool) → single qs ≡ k
          → (pick m (pick k (refilled (Γ x) b) (widened (Γ x) b)) (Γ x) ≡ Γ x) ⊎ (pick m (pick k (refilled (Γ x) b) (widened (Γ x) b)) (Γ x) ≡ widened (Γ x) b)
      go true e true f = absurd (n (alone c d x qs among f e))
      go true e false f = inr refl
      go false e k f = inl refl

  pub write_here : (v : Variable) → Γ c ≡ live v → (write Γ qs b c ≡ live (fresh v.chain b v.level)) ⊎ (write Γ qs b c ≡ live (wider v b))
  unfolding write
  write_here v e = go (rooted qs c) (rooted_in (place c d) qs among) (single qs)
    where
      go : (m : Bool) → m ≡ true → (k : Bool)
          → (pick m (pick k (refilled (Γ c) b) (widened (Γ c) b)) (Γ c) ≡ live (fresh v.chain b v.level)) ⊎ (pick m (pick k (refilled (Γ c) b) (widened (Γ c) b)) (Γ c) ≡ live (wider v b))
      go true h true = inl (ap (λ (k : Slot). refilled k b) e)
      go true h false = inr (ap (λ (k : Slot). widened k b) e)
      go false h k = absurd (false≢true h)

  widened_live : (sl : Slot) (v : Variable) → widened sl b ≡ live v → (u : Variable) × (sl ≡ live u) × (v ≡ wider u b)
  widened_live free v h = absurd (free≢live h)
  widened_live used v h = absurd (used≢live h)
  widened_live (live u) v h = (u, refl, (cc))

  -- Another variable than the one written: as it was, or with more places.
  pub other_live : (x : ℕ) (u : Variable) → x ≢ c → Γ x ≡ live u → (v : Variable) × (write Γ qs b x ≡ live v) × (Wide u v) × (v.moved_from ≡ u.moved_from)
  other_live x u n h = go (write_other x n)
    where
      go : (write Γ qs b x ≡ Γ x) ⊎ (write Γ qs b x ≡ widened (Γ x) b) → (v : Variable) × (write Γ qs b x ≡ live v) × (Wide u v) × (v.moved_from ≡ u.moved_from)
      go (inl k) = (u, k ∙ h, wide_same u, refl)
      go (inr k) = (wider u b, k ∙ ap (λ (y : Slot). widened y b) h, wide_old u b, refl)

  other_back : (x : ℕ) (v : Variable) → x ≢ c → write Γ qs b x ≡ live v → (u : Variable) × (Γ x ≡ live u) × (Wide u v)
  other_back x v n h = go (write_other x n)
    where
      go : (write Γ qs b x ≡ Γ x) ⊎ (write Γ qs b x ≡ widened (Γ x) b) → (u : Variable) × (Γ x ≡ live u) × (Wide u v)
      go (inl k) = (v, sym k ∙ h, wide_same v)
      go (inr k) = let u = widened_live (Γ x) v (sym k ∙ h) in (u.0, u.1, subst (λ (y : Variable). Wide u.0 y) (sym u.2) (wide_old u.0 b))

  pub other_used : (x : ℕ) → x ≢ c → Γ x ≡ used → write Γ qs b x ≡ used
  other_used x n h = go (write_other x n)
    where
      go : (write Γ qs b x ≡ Γ x) ⊎ (write Γ qs b x ≡ widened (Γ x) b) → write Γ qs b x ≡ used
      go (inl k) = k ∙ h
      go (inr k) = k ∙ ap (λ (y : Slot). widened y b) h

  -- N is what the variable written holds, M what the judge has there.
  pub write_wider : (N M : Variable) → write Γ qs b c ≡ live M → Wide N M → Wider (update Γ c (live N)) (write Γ qs b)
  write_wider N M e w = record { up = λ x v h. up x v h (ℕ_discrete x c); down = λ x u h. down x u h (ℕ_discrete x c) }
    where
      up : (x : ℕ) (v : Variable) → write Γ qs b x ≡ live v → Dec (x ≡ c) → (u : Variable) × (update Γ c (live N) x ≡ live u) × (Wide u v)
      up x v h (yes k) =
          let z : M ≡ v = (let a : write Γ qs b c ≡ live v = ap (λ (y : ℕ). write Γ qs b y) (sym k) ∙ h in cc) in
          (N, ap (λ (y : ℕ). update Γ c (live N) y) k ∙ update_same Γ c (live N), subst (λ (y : Variable). Wide N y) z w)
      up x v h (no k) = let u = other_back x v k h in (u.0, update_other Γ c (live N) x k ∙ u.1, u.2)

      down : (x : ℕ) (u : Variable) → update Γ c (live N) x ≡ live u → Dec (x ≡ c) → (v : Variable) × (write Γ qs b x ≡ live v)
      down x u h (yes k) = (M, ap (λ (y : ℕ). write Γ qs b y) k ∙ e)
      down x u h (no k) = let v = other_live x u k (sym (update_other Γ c (live N) x k) ∙ h) in (v.0, v.1)
