-- What follows an inner term, on the lent numbers.
use Prim.Native.Nat.{ℕ, zero, suc, ◌+◌, ◌-◌, ◌≤◌, ◌<◌}
use native.Mathlib.Omega.{arith}
use native.Mathlib.Numerals.{add-one}
use mathlib.Core.Path.{◌≡◌, refl, sym, ap, ◌∙◌}
use mathlib.Core.Bool.{Bool, true, false}
use mathlib.Core.List.{List, [], ◌∷◌}
use lib.ListN.{length, get_or}
use lib.ListN as lists
use lib.Seq.{get_or-set_same, get_or-set_other}
use Rattle.syntax.specs.Limits.{Limits}
use Rattle.std.specs.Prelude as prelude
use Rattle.std.specs.Prelude.{Ok, Err}
use Rattle.syntax.specs.Result.{ok, need, pick, ◌>>=◌}
use Rattle.syntax.specs.declared.refusals.Reason.{Reason}
use Rattle.syntax.specs.declared.refusals.Reason.TheVariants.{OpenAlready}
use Rattle.dynamics.specs.Values.{Location, variable, cell, Value, empty, owner, Row, open_with}
use Rattle.dynamics.specs.Store.{Store, put, is_open, value_in, State, Ran}
use Rattle.dynamics.specs.Drop.{InOrder, drop_value}
use Rattle.dynamics.specs.Run.{Outcome, run_box, run_let, run_assign, run_block_end}
use Rattle.dynamics.specs.Encode.{location_of}
use Rattle.store.specs.declared.store.Value as held
use Rattle.store.specs.declared.store.Value.TheVariants as value
use Rattle.store.specs.declared.store.Row as stored
use Rattle.store.specs.declared.store.Row.TheVariants as entry
use Rattle.store.specs.Words.{as_value, as_row, value_held, store_of, Tidy, Loaded, Written}
use Rattle.store.specs.StoreParts.{state_at, Located, left, Dropped, since, ClosedAll}
use Rattle.term_runner.specs.Parts.{Wrote, PlaceAssigned, seen, Stood, at_row, sequel, Fine, Boxed, Declared, Assigned, BlockClosed}
use Rattle.term_runner.specs.declared.around.Standing.{Standing}
use Rattle.dynamics.proofs.EncodeLaws.{variable_location, cell_location}
use Rattle.store.proofs.WordLaws.{held_is}
use Rattle.store.proofs.LocateLaws.{shut}
use Rattle.term_runner.proofs.LeafLaws.{located_is}

-- ---- states, and what a rule gives in them

abbrev no_value : State → Ran Outcome
no_value s = ok (s, empty)

abbrev ending : List ℕ → Value → State → Ran Outcome
ending around v s = ok (record { store = s.store; taken = s.taken; opened = around }, v)

state_pick : (b : Bool) (A B : Store) (taken : ℕ) (opened : List ℕ)
    → ◌≡◌ {A = State} (record { store = pick b A B; taken = taken; opened = opened }) (pick b (record { store = A; taken = taken; opened = opened }) (record { store = B; taken = taken; opened = opened }))
state_pick true A B taken opened = refl
state_pick false A B taken opened = refl

-- ---- the variables opened

since_same : (a b : List ℕ) (begin n : ℕ) → ((k : ℕ) → k < begin + n → get_or a k 0 ≡ get_or b k 0) → since a begin n ≡ since b begin n
unfolding since
since_same a b begin zero h = refl
since_same a b begin (suc n) h = rw (h (begin + n) (omega arith), since_same a b begin n (λ k l. h k (omega arith)))

-- What was opened before stays.
pub since_kept : (a b : List ℕ) (begin n : ℕ) → begin ≤ n → ((k : ℕ) → k < n → get_or a k 0 ≡ get_or b k 0) → since a begin (n - begin) ≡ since b begin (n - begin)
since_kept a b begin n h f = since_same a b begin (n - begin) (λ k l. f k (omega arith))

since_push : (opened : List ℕ) (begin n x : ℕ) → begin ≤ n → n < length opened → since (lists.set opened n x) begin (n + 1 - begin) ≡ x ∷ since opened begin (n - begin)
unfolding since
since_push opened begin n x h l =
    let z : n + 1 - begin ≡ suc (n - begin) = omega arith in
    let y : begin + (n - begin) ≡ n = omega arith in
    ap (since (lists.set opened n x) begin) z
    ∙ ap (λ (m : ℕ). get_or (lists.set opened n x) m 0 ∷ since (lists.set opened n x) begin (n - begin)) y
    ∙ ap (λ (m : ℕ). m ∷ since (lists.set opened n x) begin (n - begin)) (get_or-set_same opened n x 0 l)
    ∙ ap (λ (m : List ℕ). x ∷ m) (since_kept (lists.set opened n x) opened begin n h (λ k b. get_or-set_other opened n k x 0 (omega arith)))

module _ (set : Limits) where
  -- ---- writing if the row is still open

  module _ (w : List ℕ) (row : ℕ) (v : held.Value) (e : stored.Row) (l : Loaded set w row e) where
    pub write_lost : ((u : held.Value) → e ≡ entry.Open u → ⊥) → Tidy set w → Wrote set w row v w
    write_lost n t = record { tidy = t; is = rw (l.is, shut set e n) }

    pub write_goes : (u : held.Value) → e ≡ entry.Open u → (w' : List ℕ) → Written set w row (entry.Open v) w' → Wrote set w row v w'
    unfolding is_open
    write_goes u n w' q = record {
      tidy = q.tidy;
      is = q.is ∙ sym (ap (λ (x : Row). pick (is_open x) (put (store_of set w) (location_of set.variables row) (open_with (as_value set v))) (store_of set w)) (l.is ∙ ap (as_row set) n));
    }

  -- ---- assigning

  module _ (w : List ℕ) (root follows : ℕ) (v : held.Value) where
    pub place_stops : (e : Reason) → Located set w root follows (Err e) → Tidy set w → PlaceAssigned set w root follows v w (Err e)
    unfolding run_assign ◌>>=◌
    place_stops e l t = record { tidy = t; is = λ i taken opened o. sym (rw (located_is set w root follows (Err e) l i taken opened)) }

    module _ (row : ℕ) (l : Located set w root follows (Ok row)) (e : stored.Row) (q : Loaded set w row e) (w₁ : List ℕ) where
      -- The old value, dropped.
      old : (r : prelude.Result (Unit {0}) Reason) → Dropped set w (value_held e) w₁ r → (i taken : ℕ) (opened : List ℕ) → InOrder (state_at set w taken opened) → drop_value i (state_at set w taken opened) (value_in (store_of set w (location_of set.variables row))) ≡ left set w₁ taken opened i r
      old r d i taken opened o = ap (drop_value i (state_at set w taken opened)) (ap value_in q.is ∙ held_is set e) ∙ sym (d.is i taken opened o)

      pub place_drops : (x : Reason) → Dropped set w (value_held e) w₁ (Err x) → PlaceAssigned set w root follows v w₁ (Err x)
      unfolding run_assign ◌>>=◌
      place_drops x d = record {
        tidy = d.tidy;
        is = λ i taken opened o. sym (rw (located_is set w root follows (Ok row) l i taken opened, old (Err x) d i taken opened o));
      }

      pub place_writes : (u : Unit {0}) → Dropped set w (value_held e) w₁ (Ok u) → (w₂ : List ℕ) → Wrote set w₁ row v w₂ → PlaceAssigned set w root follows v w₂ (Ok tt)
      unfolding run_assign ◌>>=◌
      place_writes u d w₂ x = record {
        tidy = x.tidy;
        is = λ i taken opened o.
            ap (λ (S : Store). no_value (record { store = S; taken = taken; opened = opened })) x.is
            ∙ ap no_value (state_pick (is_open (store_of set w₁ (location_of set.variables row))) _ _ taken opened)
            ∙ sym (rw (located_is set w root follows (Ok row) l i taken opened, old (Ok u) d i taken opened o));
      }

  -- ---- box

  pub box_goes : (w : List ℕ) (inner : Standing) → inner.taken < set.boxes → (w' : List ℕ) → Written set w (set.variables + inner.taken) (entry.Open inner.value) w'
      → Boxed set w inner w' (Ok (record { value = value.Owner inner.taken; taken = inner.taken + 1; opened = inner.opened; next = inner.next }))
  unfolding run_box seen at_row sequel
  box_goes w inner few w' q = record {
    tidy = q.tidy;
    is = λ opened begin. stand opened begin;
    went = record { sound = few; next = refl };
    count = refl;
  }
    where
      filled : store_of set w' ≡ put (store_of set w) (cell inner.taken) (open_with (as_value set inner.value))
      filled = q.is ∙ ap (λ (m : Location). put (store_of set w) m (open_with (as_value set inner.value))) (cell_location set.variables inner.taken)

      stand : (opened : List ℕ) (begin : ℕ)
          → ◌≡◌ {A = Stood} (ok ((record { store = store_of set w'; taken = inner.taken + 1; opened = since opened begin (inner.opened - begin) }, owner inner.taken), inner.next))
          (ok ((record { store = put (store_of set w) (cell inner.taken) (open_with (as_value set inner.value)); taken = suc inner.taken; opened = since opened begin (inner.opened - begin) }, owner inner.taken), inner.next))
      stand opened begin = rw (filled, add-one)

  -- ---- let

  module _ (w opened : List ℕ) (i x : ℕ) (inner : Standing) (v : x < set.variables) (e : stored.Row) (l : Loaded set w x e) where
    row_is : store_of set w (variable x) ≡ as_row set e
    row_is = ap (store_of set w) (sym (variable_location set.variables x v)) ∙ l.is

    pub let_open : (u : held.Value) → e ≡ entry.Open u → Tidy set w → Declared set w opened i x inner w opened (Err (record { reason = OpenAlready; place = i }))
    unfolding run_let need is_open seen at_row sequel ◌>>=◌
    let_open u o t = record { tidy = t; is = λ begin h. sym (rw (row_is ∙ ap (as_row set) o)); went = tt; pushed = tt }

    pub let_goes : ((u : held.Value) → e ≡ entry.Open u → ⊥) → inner.opened < length opened → (w' : List ℕ) → Written set w x (entry.Open inner.value) w' → (opened' : List ℕ) → opened' ≡ lists.set opened inner.opened x
        → Declared set w opened i x inner w' opened' (Ok (record { value = value.Empty; taken = inner.taken; opened = inner.opened + 1; next = inner.next }))
    unfolding run_let need seen at_row sequel ◌>>=◌
    let_goes o few w' q opened' s = record {
      tidy = q.tidy;
      is = λ begin h. stand begin h ∙ sym (rw (ap is_open row_is ∙ shut set e o));
      went = record { sound = tt; next = refl };
      pushed = record { count = add-one inner.opened; is = s };
    }
      where
        put_is : store_of set w' ≡ put (store_of set w) (variable x) (open_with (as_value set inner.value))
        put_is = q.is ∙ ap (λ (m : Location). put (store_of set w) m (open_with (as_value set inner.value))) (variable_location set.variables x v)

        pushes : (begin : ℕ) → begin ≤ inner.opened → since opened' begin (inner.opened + 1 - begin) ≡ x ∷ since opened begin (inner.opened - begin)
        pushes begin h = ap (λ (a : List ℕ). since a begin (inner.opened + 1 - begin)) s ∙ since_push opened begin inner.opened x h few

        stand : (begin : ℕ) → begin ≤ inner.opened
            → ◌≡◌ {A = Stood} (ok ((record { store = store_of set w'; taken = inner.taken; opened = since opened' begin (inner.opened + 1 - begin) }, empty), inner.next))
            (ok ((record { store = put (store_of set w) (variable x) (open_with (as_value set inner.value)); taken = inner.taken; opened = x ∷ since opened begin (inner.opened - begin) }, empty), inner.next))
        stand begin h = rw (put_is, pushes begin h)

  -- ---- assign

  module _ (w : List ℕ) (i root follows : ℕ) (inner : Standing) (o : InOrder (state_at set w inner.taken [])) (w' : List ℕ) where
    pub assign_stops : (e : Reason) → PlaceAssigned set w root follows inner.value w' (Err e) → Assigned set w i root follows inner w' (Err (record { reason = e; place = i }))
    unfolding seen at_row sequel
    assign_stops e q = record {
      tidy = q.tidy;
      is = λ opened begin. ap (λ (x : Ran Outcome). at_row inner.next (seen x)) (q.is i inner.taken (since opened begin (inner.opened - begin)) o);
      went = tt;
      count = tt;
    }

    pub assign_goes : (u : Unit {0}) → PlaceAssigned set w root follows inner.value w' (Ok u) → Assigned set w i root follows inner w' (Ok (record { value = value.Empty; taken = inner.taken; opened = inner.opened; next = inner.next }))
    unfolding seen at_row sequel
    assign_goes u q = record {
      tidy = q.tidy;
      is = λ opened begin. ap (λ (x : Ran Outcome). at_row inner.next (seen x)) (q.is i inner.taken (since opened begin (inner.opened - begin)) o);
      went = record { sound = tt; next = refl };
      count = refl;
    }

  -- ---- the end of a block

  module _ (w opened : List ℕ) (i begin : ℕ) (inner : Standing) (f : Fine set w inner) (w' : List ℕ) where
    pub end_stops : (e : Reason) → ClosedAll set w opened begin inner.opened w' (Err e) → BlockClosed set w opened i begin inner w' (Err (record { reason = e; place = i }))
    unfolding run_block_end seen at_row sequel ◌>>=◌
    end_stops e q = record {
      tidy = q.tidy;
      is = λ around. sym (rw (← q.is i inner.taken (since opened begin (inner.opened - begin)) f.ordered));
      went = tt;
      count = tt;
    }

    pub end_goes : (u : Unit {0}) → ClosedAll set w opened begin inner.opened w' (Ok u)
        → BlockClosed set w opened i begin inner w' (Ok (record { value = inner.value; taken = inner.taken; opened = begin; next = inner.next }))
    unfolding run_block_end seen at_row sequel ◌>>=◌
    end_goes u q = record {
      tidy = q.tidy;
      is = λ around. sym (rw (← q.is i inner.taken (since opened begin (inner.opened - begin)) f.ordered));
      went = record { sound = f.sound; next = refl };
      count = refl;
    }
