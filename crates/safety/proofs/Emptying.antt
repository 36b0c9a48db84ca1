-- A value is dropped, and its name has none any more: the value in flight, or a variable's.
use Prim.Native.Nat.{ℕ, ◌+◌, ◌-◌, zero-le}
use mathlib.Core.Path.{◌≡◌, refl, sym, ap, ◌∙◌, subst, fun_ext}
use mathlib.Core.Logic.{◌≢◌}
use Rattle.syntax.specs.Result.{ok}
use Rattle.dynamics.specs.Values.{Location, variable, Value, empty, Row, closed, open_with}
use Rattle.dynamics.specs.Store.{Store, put, State, with_store}
use Rattle.dynamics.specs.Drop.{drop_value}
use Rattle.dynamics.proofs.StoreLaws.{put_same}
use Rattle.safety.proofs.Memory.{Name, in_flight, in_drop, var, Spot, Content, no_row, has, name_dec, p_empty, Memory, var≢drop, drop≢flight}
use Rattle.safety.proofs.NameMaps.{upd, upd_same, upd_other}
use Rattle.safety.proofs.Lifted.{lift, lift_other, lift_drop, lift_flight}
use Rattle.safety.proofs.Transfer.{moved, moved_other, transfer}
use Rattle.safety.proofs.Naming.{open_name, close_name}
use Rattle.safety.proofs.Dropping.{dropped}

-- The value u of the name a is dropped: a has no row afterwards, and all other names have what they had.
pub record Emptied (H : Name → Content) (t : Row) (k : ℕ) (ρ : Name → ℕ → Spot) (i : ℕ) (s : State) (u : Value) (a : Name) : Type 0 where
  pub A : Store
  pub H' : Name → Content
  pub ρ' : Name → ℕ → Spot
  pub ran : drop_value i s u ≡ ok (with_store s A)
  pub mem : Memory H' (lift A t closed) k ρ'
  pub out : H' a ≡ no_row
  pub same_h : (z : Name) → z ≢ a → H' z ≡ H z
  pub sameρ : (z : Name) (j : ℕ) → z ≢ a → z ≢ in_drop → ρ' z j ≡ ρ z j

none_of : Location → Type 0
none_of l = ⊥

module _ (i : ℕ) (s : State) (H : Name → Content) (t : Row) (ρ : Name → ℕ → Spot) (u v : Value) (n : ℕ) where
  -- Once it is in the name of what is being dropped.
  finish : (H₀ : Name → Content) (ρ₀ : Name → ℕ → Spot) (a : Name) → a ≢ in_drop → H₀ in_drop ≡ no_row → H a ≡ no_row
      → ((z : Name) → z ≢ a → z ≢ in_drop → H z ≡ H₀ z) → ((z : Name) (j : ℕ) → z ≢ a → z ≢ in_drop → ρ z j ≡ ρ₀ z j)
      → Memory H (lift s.store t (open_with u)) s.taken ρ → H in_drop ≡ has n v → Emptied H₀ t s.taken ρ₀ i s u a
  unfolding none_of
  finish H₀ ρ₀ a ao o₀ ha sh sr m h =
      let G = dropped i s H t ρ s.store u v n m h none_of s.store m.untaken (λ l x. refl) (λ c j x. absurd x) in
      record {
        A = G.A';
        H' = G.H';
        ρ' = G.ρ';
        ran = G.ran;
        mem = subst (λ (S : Store). Memory G.H' (lift S t closed) s.taken G.ρ') (sym (fun_ext (λ l. G.agree l (λ x. x)))) G.mem;
        out = G.same_h a ao ∙ ha;
        same_h = λ z n. elim (name_dec z in_drop) [ yes e ↦ ap G.H' e ∙ G.out ∙ sym (ap H₀ e ∙ o₀) | no e ↦ G.same_h z e ∙ sh z n e ];
        sameρ = λ z j n k. G.sameρ z j k ∙ sr z j n k;
      }

-- The value in flight.
pub drop_flight_value : (i : ℕ) (s : State) (H : Name → Content) (ρ : Name → ℕ → Spot) (u v : Value) (n : ℕ)
    → Memory H (lift s.store (open_with u) closed) s.taken ρ → H in_flight ≡ has n v → H in_drop ≡ no_row
    → Emptied H closed s.taken ρ i s u in_flight
drop_flight_value i s H ρ u v n m h ho =
    finish i s H₃ closed (moved ρ in_flight 0 in_drop 0) u v (0 + (n - 0)) H ρ in_flight to ho (upd_same H₂ in_flight no_row)
    (λ z a b. upd_other H₂ in_flight no_row z a ∙ upd_other (upd H₁ in_flight (has 0 empty)) in_drop _ z b ∙ upd_other H₁ in_flight _ z a ∙ upd_other H in_drop _ z b)
    (λ z j a b. moved_other ρ in_flight 0 in_drop 0 z j b)
    m₃ (upd_other H₂ in_flight no_row in_drop (λ e. to (sym e)) ∙ upd_same (upd H₁ in_flight (has 0 empty)) in_drop _)
  where
    S : Store
    S = s.store

    to : in_flight ≢ in_drop
    to e = drop≢flight (sym e)

    H₁ : Name → Content
    H₁ = upd H in_drop (has 0 empty)

    m₁ : Memory H₁ (lift S (open_with u) (open_with empty)) s.taken ρ
    m₁ = open_name m in_drop empty p_empty ho H₁ (upd_same H in_drop _) (λ z k. upd_other H in_drop _ z k) (lift S (open_with u) (open_with empty)) refl (λ q k. lift_drop S (open_with u) (open_with empty) closed q k)

    H₂ : Name → Content
    H₂ = upd (upd H₁ in_flight (has 0 empty)) in_drop (has (0 + (n - 0)) v)

    m₂ : Memory H₂ (lift S (open_with empty) (open_with u)) s.taken (moved ρ in_flight 0 in_drop 0)
    m₂ = transfer m₁ in_flight in_drop 0 0 n v (upd_other H in_drop _ in_flight to ∙ h) zero-le (upd_same H in_drop _) to
        H₂ (upd_other (upd H₁ in_flight (has 0 empty)) in_drop _ in_flight to ∙ upd_same H₁ in_flight _) (upd_same (upd H₁ in_flight (has 0 empty)) in_drop _)
        (λ z a b. upd_other (upd H₁ in_flight (has 0 empty)) in_drop _ z b ∙ upd_other H₁ in_flight _ z a)
        (lift S (open_with empty) (open_with u))
        (ap (λ (k : Spot). lift S (open_with empty) (open_with u) k) (m.base in_flight))
        (ap (λ (k : Spot). lift S (open_with empty) (open_with u) k) (m.base in_drop) ∙ sym (ap (λ (k : Spot). lift S (open_with u) (open_with empty) k) (m.base in_flight)))
        (λ q a b. lift_flight S (open_with empty) (open_with u) (open_with u) q (λ e. a (e ∙ sym (m.base in_flight))) ∙ lift_drop S (open_with u) (open_with u) (open_with empty) q (λ e. b (e ∙ sym (m.base in_drop))))

    H₃ : Name → Content
    H₃ = upd H₂ in_flight no_row

    m₃ : Memory H₃ (lift S closed (open_with u)) s.taken (moved ρ in_flight 0 in_drop 0)
    m₃ = close_name m₂ in_flight empty (upd_other (upd H₁ in_flight (has 0 empty)) in_drop _ in_flight to ∙ upd_same H₁ in_flight _) H₃ (upd_same H₂ in_flight no_row) (λ z k. upd_other H₂ in_flight no_row z k)
        (lift S closed (open_with u)) refl (λ q k. lift_flight S closed (open_with empty) (open_with u) q k)

-- A variable's value.
pub drop_var : (i : ℕ) (s : State) (H : Name → Content) (t : Row) (ρ : Name → ℕ → Spot) (x : ℕ) (u v : Value) (n : ℕ)
    → Memory H (lift s.store t closed) s.taken ρ → H (var x) ≡ has n v → H in_drop ≡ no_row → s.store (variable x) ≡ open_with u
    → Emptied H t s.taken ρ i (with_store s (put s.store (variable x) closed)) u (var x)
drop_var i s H t ρ x u v n m h ho e =
    finish i (with_store s (put S (variable x) closed)) H₃ t (moved ρ a 0 in_drop 0) u v (0 + (n - 0)) H ρ a to ho (upd_same H₂ a no_row)
    (λ z p q. upd_other H₂ a no_row z p ∙ upd_other (upd H₁ a (has 0 empty)) in_drop _ z q ∙ upd_other H₁ a _ z p ∙ upd_other H in_drop _ z q)
    (λ z j p q. moved_other ρ a 0 in_drop 0 z j q)
    m₃ (upd_other H₂ a no_row in_drop (λ e. to (sym e)) ∙ upd_same (upd H₁ a (has 0 empty)) in_drop _)
  where
    S : Store
    S = s.store

    a : Name
    a = var x

    to : a ≢ in_drop
    to e = var≢drop e

    H₁ : Name → Content
    H₁ = upd H in_drop (has 0 empty)

    m₁ : Memory H₁ (lift S t (open_with empty)) s.taken ρ
    m₁ = open_name m in_drop empty p_empty ho H₁ (upd_same H in_drop _) (λ z k. upd_other H in_drop _ z k) (lift S t (open_with empty)) refl (λ q k. lift_drop S t (open_with empty) closed q k)

    H₂ : Name → Content
    H₂ = upd (upd H₁ a (has 0 empty)) in_drop (has (0 + (n - 0)) v)

    m₂ : Memory H₂ (lift (put S (variable x) (open_with empty)) t (open_with u)) s.taken (moved ρ a 0 in_drop 0)
    m₂ = transfer m₁ a in_drop 0 0 n v (upd_other H in_drop _ a to ∙ h) zero-le (upd_same H in_drop _) to
        H₂ (upd_other (upd H₁ a (has 0 empty)) in_drop _ a to ∙ upd_same H₁ a _) (upd_same (upd H₁ a (has 0 empty)) in_drop _)
        (λ z p q. upd_other (upd H₁ a (has 0 empty)) in_drop _ z q ∙ upd_other H₁ a _ z p)
        (lift (put S (variable x) (open_with empty)) t (open_with u))
        (ap (λ (k : Spot). lift (put S (variable x) (open_with empty)) t (open_with u) k) (m.base a) ∙ put_same S (variable x) (open_with empty))
        (ap (λ (k : Spot). lift (put S (variable x) (open_with empty)) t (open_with u) k) (m.base in_drop) ∙ sym e ∙ sym (ap (λ (k : Spot). lift S t (open_with empty) k) (m.base a)))
        (λ q p r. lift_other S (variable x) (open_with empty) t (open_with u) q (λ e. p (e ∙ sym (m.base a))) ∙ lift_drop S t (open_with u) (open_with empty) q (λ e. r (e ∙ sym (m.base in_drop))))

    H₃ : Name → Content
    H₃ = upd H₂ a no_row

    m₃ : Memory H₃ (lift (put S (variable x) closed) t (open_with u)) s.taken (moved ρ a 0 in_drop 0)
    m₃ =
        close_name m₂ a empty (upd_other (upd H₁ a (has 0 empty)) in_drop _ a to ∙ upd_same H₁ a _) H₃ (upd_same H₂ a no_row) (λ z k. upd_other H₂ a no_row z k)
        (lift (put S (variable x) closed) t (open_with u)) (put_same S (variable x) closed)
        (λ q k. lift_other S (variable x) closed t (open_with u) q k ∙ sym (lift_other S (variable x) (open_with empty) t (open_with u) q k))
