-- A block closes its variables.
use Prim.Native.Nat.{ℕ, zero-le}
use mathlib.Core.Path.{◌≡◌, refl, sym, ap, ◌∙◌, subst, fun_ext}
use mathlib.Core.Logic.{◌≢◌, ◌⊎◌, inl, inr}
use mathlib.Core.List.{List, [], ◌∷◌}
use Rattle.syntax.specs.Result.{ok}
use Rattle.statics.specs.Environment.{}
use Rattle.dynamics.specs.Values.{Location, variable, Value, Row, closed, open_with}
use Rattle.dynamics.specs.Store.{Store, put, value_in, State, with_store, Ran}
use Rattle.dynamics.specs.Drop.{drop_value, close_all}
use Rattle.syntax.proofs.Answers.{after}
use Rattle.dynamics.proofs.StoreLaws.{put_same, put_other}
use Rattle.dynamics.proofs.DropLaws.{drop_empty}
use Rattle.safety.proofs.Memory.{Name, in_drop, var, Spot, top, Content, no_row, has, spot_dec, Memory, either_dec, var≢drop, has≢no_row, row_open}
use Rattle.safety.proofs.Lifted.{spot_of, lift, spot_inj}
use Rattle.safety.proofs.Ghost as Gh
use Rattle.safety.proofs.Typing.{Typed}
use Rattle.safety.proofs.Frames.{sweep}
use Rattle.safety.proofs.Invariant.{Member}
use Rattle.safety.proofs.Emptying.{Emptied, drop_var}

pub record Closed (nv : ℕ) (G : Name → Type 0) (Γ : Name → Gh.Slot) (rank : Name → ℕ) (H : Name → Content) (t : Row) (k : ℕ) (s : State) (xs : List ℕ) (r : Ran State) : Type 0 where
  pub A : Store
  pub H' : Name → Content
  pub ρ' : Name → ℕ → Spot
  pub ran : r ≡ ok (with_store s A)
  pub mem : Memory H' (lift A t closed) k ρ'
  pub typed : Typed nv G Γ H' ρ' rank
  pub out : (x : ℕ) → Member x xs → H' (var x) ≡ no_row
  pub keep : (z : Name) → H z ≡ no_row → H' z ≡ no_row

module _ (nv : ℕ) (G : Name → Type 0) (Γ : Name → Gh.Slot) (rank : Name → ℕ) (t : Row) (i : ℕ) (quiet : (q : Gh.Variable) → Γ in_drop ≢ Gh.live q) where
  One : State → (Name → Content) → ℕ → Type 0
  One s H x =
      Closed nv G Γ rank H t s.taken s (x ∷ []) (drop_value i (with_store s (put s.store (variable x) closed)) (value_in (s.store (variable x))))

  one_gone : (s : State) (H : Name → Content) (ρ : Name → ℕ → Spot) (x : ℕ) → Memory H (lift s.store t closed) s.taken ρ → Typed nv G Γ H ρ rank
      → H (var x) ≡ no_row → One s H x
  unfolding One
  one_gone s H ρ x m T h =
      let e : s.store (variable x) ≡ closed = m.shut (var x) h in
      record {
        A = put s.store (variable x) closed;
        H' = H;
        ρ' = ρ;
        ran = ap (λ (r : Row). drop_value i (with_store s (put s.store (variable x) closed)) (value_in r)) e ∙ drop_empty i _;
        mem = subst (λ (S : Store). Memory H (lift S t closed) s.taken ρ) (sym (fun_ext (same e))) m;
        typed = T;
        out = λ y k. elim k [ inl q ↦ ap (λ (z : ℕ). H (var z)) q ∙ h | inr q ↦ absurd q ];
        keep = λ z q. q;
      }
    where
      same : s.store (variable x) ≡ closed → (l : Location) → put s.store (variable x) closed l ≡ s.store l
      same e l = go (spot_dec (spot_of l) (top (var x)))
        where
          go : Dec (spot_of l ≡ top (var x)) → put s.store (variable x) closed l ≡ s.store l
          go (yes q) = let z = spot_inj l (variable x) q in rw z (put_same s.store (variable x) closed ∙ sym e)
          go (no q) = put_other s.store (variable x) closed l (λ k. q (ap spot_of k))

  one_has : (s : State) (H : Name → Content) (ρ : Name → ℕ → Spot) (x n : ℕ) (v : Value) → Memory H (lift s.store t closed) s.taken ρ
      → Typed nv G Γ H ρ rank → H (var x) ≡ has n v → H in_drop ≡ no_row → ((q : Gh.Variable) → Γ (var x) ≢ Gh.live q) → One s H x
  unfolding One
  one_has s H ρ x n v m T h ho dead =
      record {
        A = E.A;
        H' = E.H';
        ρ' = E.ρ';
        ran = ap (λ (r : Row). drop_value i (with_store s (put s.store (variable x) closed)) (value_in r)) Su ∙ E.ran;
        mem = E.mem;
        typed = T';
        out = λ y k. elim k [ inl q ↦ ap (λ (z : ℕ). E.H' (var z)) q ∙ E.out | inr q ↦ absurd q ];
        keep = λ z q. E.same_h z (λ e. has≢no_row h (ap H (sym e) ∙ q)) ∙ q;
      }
    where
      O : (u : Value) × (lift s.store t closed (ρ (var x) 0) ≡ open_with u)
      O = row_open m (var x) n v 0 h zero-le

      Su : s.store (variable x) ≡ open_with O.0
      Su = ap (λ (k : Spot). lift s.store t closed k) (sym (m.base (var x))) ∙ O.1

      E : Emptied H t s.taken ρ i (with_store s (put s.store (variable x) closed)) O.0 (var x)
      E = drop_var i s H t ρ x O.0 v n m h ho Su

      none_live : (z : Name) → (z ≡ var x) ⊎ (z ≡ in_drop) → (q : Gh.Variable) → Γ z ≢ Gh.live q
      none_live z (inl e) q k = dead q (ap Γ (sym e) ∙ k)
      none_live z (inr e) q k = quiet q (ap Γ (sym e) ∙ k)

      out' : (z : Name) → (z ≡ var x) ⊎ (z ≡ in_drop) → (G z → ⊥) → E.H' z ≡ no_row
      out' z (inl e) g = ap E.H' e ∙ E.out
      out' z (inr e) g = ap E.H' e ∙ E.same_h in_drop (λ k. var≢drop (sym k)) ∙ ho

      T' : Typed nv G Γ E.H' E.ρ' rank
      T' = sweep T (λ z. (z ≡ var x) ⊎ (z ≡ in_drop)) (either_dec (var x) in_drop) Γ (λ z n. refl) none_live none_live G E.H' E.ρ'
          (λ z n. E.same_h z (λ e. n (inl e))) (λ z j n. E.sameρ z j (λ e. n (inl e)) (λ e. n (inr e))) (λ z n g. g) out'

  one_close : (s : State) (H : Name → Content) (ρ : Name → ℕ → Spot) (x : ℕ) → Memory H (lift s.store t closed) s.taken ρ
      → Typed nv G Γ H ρ rank → H in_drop ≡ no_row → ((q : Gh.Variable) → Γ (var x) ≢ Gh.live q) → One s H x
  one_close s H ρ x m T ho dead = go (H (var x)) refl
    where
      go : (h : Content) → H (var x) ≡ h → One s H x
      go no_row e = one_gone s H ρ x m T e
      go (has n v) e = one_has s H ρ x n v m T e ho dead

  pub closing : (xs : List ℕ) (s : State) (H : Name → Content) (ρ : Name → ℕ → Spot) → Memory H (lift s.store t closed) s.taken ρ
      → Typed nv G Γ H ρ rank → H in_drop ≡ no_row → ((x : ℕ) → Member x xs → (q : Gh.Variable) → Γ (var x) ≢ Gh.live q)
      → Closed nv G Γ rank H t s.taken s xs (close_all i s xs)
  unfolding One close_all
  closing [] s H ρ m T ho dead = record { A = s.store; H' = H; ρ' = ρ; ran = refl; mem = m; typed = T; out = λ x k. absurd k; keep = λ z q. q }
  closing (x ∷ xs) s H ρ m T ho dead =
      let P = one_close s H ρ x m T ho (dead x (inl refl)) in
      let R = closing xs (with_store s P.A) P.H' P.ρ' P.mem P.typed (P.keep in_drop ho) (λ y k. dead y (inr k)) in
      record {
        A = R.A;
        H' = R.H';
        ρ' = R.ρ';
        ran = after _ _ (with_store s P.A) (ok (with_store s R.A)) P.ran R.ran;
        mem = R.mem;
        typed = R.typed;
        out = λ y k. elim k [ inl q ↦ R.keep (var y) (P.out y (inl q)) | inr q ↦ R.out y q ];
        keep = λ z q. R.keep z (P.keep z q);
      }
