-- Dropping values and closing variables, on the lent numbers.
use Prim.Native.Nat.{ℕ, suc, ◌+◌, ◌-◌, ◌≤◌, ◌<◌}
use native.Mathlib.Omega.{arith}
use mathlib.Core.Path.{◌≡◌, refl, sym, ap, subst, ◌∙◌}
use mathlib.Core.List.{List, [], ◌∷◌}
use lib.ListN.{get_or}
use Rattle.std.specs.Prelude as prelude
use Rattle.std.specs.Prelude.{Ok, Err}
use Rattle.syntax.specs.Limits.{Limits}
use Rattle.syntax.specs.Result.{Result, ok, err, ◌>>=◌}
use Rattle.syntax.specs.declared.refusals.Reason.{Reason}
use Rattle.syntax.specs.declared.refusals.Reason.TheVariants.{BackAlready}
use Rattle.dynamics.specs.Values.{Location, variable, cell, Value, closed, given_back, open_with}
use Rattle.dynamics.specs.Store.{Store, put, is_open, value_in, State, with_store, Ran}
use Rattle.dynamics.specs.Drop.{cells_left, InOrder, drop_value, close_all}
use Rattle.dynamics.specs.Encode.{location_of}
use Rattle.store.specs.Words.{store_of, Tidy, as_value, as_row, value_held, Sound, SoundRow, Loaded, Written}
use Rattle.store.specs.StoreParts.{state_at, left, Dropped, ClosedOne, since, ClosedAll}
use Rattle.store.specs.declared.store.Value as held
use Rattle.store.specs.declared.store.Value.TheVariants as value
use Rattle.store.specs.declared.store.Row as stored
use Rattle.store.specs.declared.store.Row.TheVariants as entry
use Rattle.dynamics.proofs.DropLaws.{without, without_in_order, one_fewer, drop_owner, drop_not_open, drop_empty, drop_num, drop_reference}
use Rattle.dynamics.proofs.Kept.{keeps_ok, drop_keeps, close_keeps}
use Rattle.dynamics.proofs.RunOrder.{variable_kept, lasting}
use Rattle.dynamics.proofs.EncodeLaws.{variable_location, cell_location}
use Rattle.store.proofs.WordLaws.{held_is, out_cell}
use Rattle.store.proofs.LocateLaws.{shut}

-- ---- closing, in any state

pub drop_ordered : (i : ℕ) (s : State) (v : Value) → InOrder s → (s' : State) → drop_value i s v ≡ ok s' → InOrder s'
drop_ordered i s v h s' e = keeps_ok (drop_keeps lasting i s v h) s' e

close_ordered : (i : ℕ) (s : State) (xs : List ℕ) → InOrder s → (s' : State) → close_all i s xs ≡ ok s' → InOrder s'
close_ordered i s xs h s' e = keeps_ok (close_keeps lasting i xs s h) s' e

bind_ok : {E A : Type 0} (m : Result E A) → (m >>= λ a. ok a) ≡ m
unfolding ◌>>=◌
bind_ok (ok a) = refl
bind_ok (err e) = refl

since_last : (opened : List ℕ) (b n : ℕ) → b < n → since opened b (n - b) ≡ get_or opened (n - 1) 0 ∷ since opened b (n - 1 - b)
unfolding since
since_last opened b n h =
    let z : n - b ≡ suc (n - 1 - b) = omega arith in
    let y : b + (n - 1 - b) ≡ n - 1 = omega arith in
    ap (since opened b) z ∙ ap (λ (m : ℕ). get_or opened m 0 ∷ since opened b (n - 1 - b)) y

close_cons : (i : ℕ) (s : State) (x : ℕ) (xs : List ℕ) → close_all i s (x ∷ xs) ≡ (close_all i s (x ∷ []) >>= λ s'. close_all i s' xs)
unfolding close_all ◌>>=◌
close_cons i s x xs = go (drop_value i (with_store s (put s.store (variable x) closed)) (value_in (s.store (variable x))))
  where
    go : (m : Ran State) → (m >>= λ s'. close_all i s' xs) ≡ ((m >>= λ s'. ok s') >>= λ s'. close_all i s' xs)
    go (ok a) = refl
    go (err e) = refl

module _ (set : Limits) where
  -- ---- one step of dropping

  pub drop_other : (w : List ℕ) (v : held.Value) → ((c : ℕ) → v ≡ value.Owner c → ⊥) → Tidy set w → Dropped set w v w (Ok tt)
  drop_other w v n t = record { tidy = t; is = λ i taken opened h. sym (go v n i (state_at set w taken opened)) }
    where
      go : (v : held.Value) → ((c : ℕ) → v ≡ value.Owner c → ⊥) → (i : ℕ) (s : State) → drop_value i s (as_value set v) ≡ ok s
      go value.Empty n i s = drop_empty i s
      go (value.Number p) n i s = drop_num i s p
      go (value.Owner c) n i s = absurd (n c refl)
      go (value.Reference r) n i s = drop_reference i s (location_of set.variables r)

  module _ (w : List ℕ) (p : ℕ) (e : stored.Row) (l : Loaded set w (set.variables + p) e) where
    cell_row : store_of set w (cell p) ≡ as_row set e
    cell_row = ap (store_of set w) (sym (cell_location set.variables p)) ∙ l.is

    pub drop_shut : ((u : held.Value) → e ≡ entry.Open u → ⊥) → Tidy set w → Dropped set w (value.Owner p) w (Err BackAlready)
    drop_shut n t = record {
      tidy = t;
      is = λ i taken opened h.
          sym (drop_not_open i (state_at set w taken opened) p (ap is_open cell_row ∙ shut set e n));
    }

    module _ (u : held.Value) (n : e ≡ entry.Open u) (w₁ : List ℕ) (q : Written set w (set.variables + p) entry.GivenBack w₁) where
      cell_open : store_of set w (cell p) ≡ open_with (as_value set u)
      cell_open = cell_row ∙ ap (as_row set) n

      pub held_sound : Sound set u
      held_sound = subst (SoundRow set) n l.sound

      given_back_law : store_of set w₁ ≡ put (store_of set w) (cell p) given_back
      given_back_law = q.is ∙ ap (λ (m : Location). put (store_of set w) m given_back) (cell_location set.variables p)

      back_state : (taken : ℕ) (opened : List ℕ) → state_at set w₁ taken opened ≡ without (state_at set w taken opened) p
      back_state taken opened = ap (λ (S : Store). record { store = S; taken = taken; opened = opened }) given_back_law

      pub drop_goes : (w₂ : List ℕ) (r : prelude.Result (Unit {0}) Reason) → Dropped set w₁ u w₂ r → Dropped set w (value.Owner p) w₂ r
      drop_goes w₂ r d = record {
        tidy = d.tidy;
        is = λ i taken opened h.
            d.is i taken opened (subst InOrder (sym (back_state taken opened)) (without_in_order (state_at set w taken opened) h p (as_value set u) cell_open))
            ∙ ap (λ (s : State). drop_value i s (as_value set u)) (back_state taken opened)
            ∙ sym (drop_owner (state_at set w taken opened) h i p (as_value set u) cell_open);
      }

      -- One cell fewer is not given back.
      pub drop_falls : cells_left (state_at set w₁ set.boxes []) < cells_left (state_at set w set.boxes [])
      drop_falls =
          let f = one_fewer (state_at set w set.boxes []) (λ c h. out_cell set w c h) p (as_value set u) cell_open in
          let g = ap cells_left (back_state set.boxes []) in
          omega arith

  -- ---- closing

  pub close_one_law : (w : List ℕ) (x : ℕ) → x < set.variables → (e : stored.Row) → Loaded set w x e → (w₁ : List ℕ) → Written set w x entry.Closed w₁ → (w₂ : List ℕ) (r : prelude.Result (Unit {0}) Reason) → Dropped set w₁ (value_held e) w₂ r → ClosedOne set w x w₂ r
  unfolding close_all
  close_one_law w x h e l w₁ q w₂ r d = record {
    tidy = d.tidy;
    is = λ i taken opened o.
        d.is i taken opened (subst InOrder (sym (shut_one taken opened)) (variable_kept (state_at set w taken opened) x closed o))
        ∙ ap (λ (s : State). drop_value i s (as_value set (value_held e))) (shut_one taken opened)
        ∙ ap (drop_value i (with_store (state_at set w taken opened) (put (store_of set w) (variable x) closed)))
        (sym (held_is set e) ∙ ap value_in (sym l.is ∙ ap (store_of set w) (variable_location set.variables x h)))
        ∙ sym (bind_ok _);
  }
    where
      shut_one : (taken : ℕ) (opened : List ℕ) → state_at set w₁ taken opened ≡ with_store (state_at set w taken opened) (put (store_of set w) (variable x) closed)
      shut_one taken opened =
          ap (λ (S : Store). record { store = S; taken = taken; opened = opened })
          (q.is ∙ ap (λ (m : Location). put (store_of set w) m closed) (variable_location set.variables x h))

  -- What is left to close, and has been from the start.
  pub record Closing (w₀ opened : List ℕ) (begin end : ℕ) (w : List ℕ) (left : ℕ) : Type 0 where
    pub tidy : Tidy set w
    pub more : begin ≤ left
    pub few : left ≤ end
    pub ordered : (taken : ℕ) (around : List ℕ) → InOrder (state_at set w₀ taken around) → InOrder (state_at set w taken around)
    pub is : (i taken : ℕ) (around : List ℕ) → InOrder (state_at set w₀ taken around)
        → close_all i (state_at set w taken around) (since opened begin (left - begin)) ≡ close_all i (state_at set w₀ taken around) (since opened begin (end - begin))

  pub closing_starts : (w opened : List ℕ) (begin end : ℕ) → Tidy set w → begin ≤ end → Closing w opened begin end w end
  closing_starts w opened begin end t h = record { tidy = t; more = h; few = omega arith; ordered = λ taken around o. o; is = λ i taken around o. refl }

  module _ (w₀ opened : List ℕ) (begin end : ℕ) (w : List ℕ) (left₁ : ℕ) (g : Closing w₀ opened begin end w left₁) where
    module _ (some : begin < left₁) (x : ℕ) (ex : x ≡ get_or opened (left₁ - 1) 0) (w₁ : List ℕ) where
      turn : (r : prelude.Result (Unit {0}) Reason) → ClosedOne set w x w₁ r → (i taken : ℕ) (around : List ℕ) → InOrder (state_at set w₀ taken around)
          → (left set w₁ taken around i r >>= λ s. close_all i s (since opened begin (left₁ - 1 - begin))) ≡ close_all i (state_at set w₀ taken around) (since opened begin (end - begin))
      turn r d i taken around o =
          ap (λ (m : Ran State). m >>= λ s. close_all i s (since opened begin (left₁ - 1 - begin))) (d.is i taken around (g.ordered taken around o))
          ∙ sym (close_cons i (state_at set w taken around) x (since opened begin (left₁ - 1 - begin)))
          ∙ ap (λ (y : ℕ). close_all i (state_at set w taken around) (y ∷ since opened begin (left₁ - 1 - begin))) ex
          ∙ ap (close_all i (state_at set w taken around)) (sym (since_last opened begin left₁ some))
          ∙ g.is i taken around o

      pub closing_stops : (e : Reason) → ClosedOne set w x w₁ (Err e) → ClosedAll set w₀ opened begin end w₁ (Err e)
      unfolding ◌>>=◌
      closing_stops e d = record { tidy = d.tidy; is = turn (Err e) d }

      pub closing_goes : (u : Unit {0}) → ClosedOne set w x w₁ (Ok u) → Closing w₀ opened begin end w₁ (left₁ - 1)
      unfolding ◌>>=◌
      closing_goes u d = record {
        tidy = d.tidy;
        more = omega arith;
        few = let y = g.few in omega arith;
        ordered = λ taken around o.
            close_ordered 0 (state_at set w taken around) (x ∷ []) (g.ordered taken around o) (state_at set w₁ taken around) (sym (d.is 0 taken around (g.ordered taken around o)));
        is = turn (Ok u) d;
      }

    pub closing_ends : left₁ ≤ begin → ClosedAll set w₀ opened begin end w (Ok tt)
    unfolding close_all since
    closing_ends h = record {
      tidy = g.tidy;
      is = λ i taken around o.
          let z : left₁ - begin ≡ 0 = omega arith in
          sym (ap (λ (m : ℕ). close_all i (state_at set w taken around) (since opened begin m)) z) ∙ g.is i taken around o;
    }
