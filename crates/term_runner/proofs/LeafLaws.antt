-- The terms without an inner term, on the lent numbers.
use Prim.Native.Nat.{ℕ}
use mathlib.Core.Path.{◌≡◌, refl, sym, ap, ◌∙◌}
use mathlib.Core.List.{List}
use Rattle.std.specs.Prelude.{Result, Ok, Err}
use Rattle.syntax.specs.Limits.{Limits}
use Rattle.syntax.specs.Result.{ok, err, ◌>>=◌}
use Rattle.syntax.specs.Script.{Place}
use Rattle.syntax.specs.declared.refusals.Reason.{Reason}
use Rattle.syntax.specs.declared.refusals.Reason.TheVariants.{WrongKind}
use Rattle.dynamics.specs.Values.{Location, Value}
use Rattle.dynamics.specs.Store.{Store, State, Ran, fault}
use Rattle.dynamics.specs.Locate.{locate, filled, number_in}
use Rattle.dynamics.specs.Run.{Outcome, run_copy, run_move, run_borrow, run_number, run_pair}
use Rattle.dynamics.specs.Encode.{location_of}
use Rattle.store.specs.declared.store.Value as held
use Rattle.store.specs.declared.store.Value.TheVariants as value
use Rattle.store.specs.declared.store.Row.TheVariants as entry
use Rattle.store.specs.Words.{as_value, Tidy, Written}
use Rattle.store.specs.StoreParts.{state_at, place_of, told_at, Located, Filled}
use Rattle.term_runner.specs.LeafParts.{gave, Copied, Moved, Borrowed, Numbered, Paired}

abbrev paired : State → Value → Ran Outcome
paired s v = ok (s, v)

-- ---- numbers, in any state

number_copied : (s : State) (i : ℕ) (p : Place) → run_number s i p ≡ (run_copy s i p >>= λ o. number_in s i o.1)
unfolding run_number run_copy ◌>>=◌
number_copied s i p = go (locate s i p)
  where
    go₁ : (m : Ran Value) → (m >>= λ v. number_in s i v) ≡ ((m >>= paired s) >>= λ o. number_in s i o.1)
    go₁ (ok v) = refl
    go₁ (err e) = refl

    go : (m : Ran Location) → (m >>= λ l. filled s i (s.store l) >>= λ v. number_in s i v) ≡ ((m >>= λ l. filled s i (s.store l) >>= paired s) >>= λ o. number_in s i o.1)
    go (ok l) = go₁ (filled s i (s.store l))
    go (err e) = refl

module _ (set : Limits) where
  gave_held : (w : List ℕ) (taken : ℕ) (opened : List ℕ) (i : ℕ) (g : Result held.Value Reason) → gave set w taken opened i g ≡ (told_at (state_at set w taken opened) i (as_value set) g >>= paired (state_at set w taken opened))
  unfolding ◌>>=◌
  gave_held w taken opened i (Ok v) = refl
  gave_held w taken opened i (Err e) = refl

  -- A value that is no number.
  pub no_number : (s : State) (i : ℕ) (v : held.Value) → ((n : ℕ) → v ≡ value.Number n → ⊥) → number_in s i (as_value set v) ≡ fault 61 i s
  unfolding number_in
  no_number s i value.Empty n = refl
  no_number s i (value.Number p) n = absurd (n p refl)
  no_number s i (value.Owner c) n = refl
  no_number s i (value.Reference r) n = refl

  module _ (w : List ℕ) (root follows : ℕ) where
    pub located_is : (f : Result ℕ Reason) → Located set w root follows f → (i taken : ℕ) (opened : List ℕ) → locate (state_at set w taken opened) i (place_of root follows) ≡ told_at (state_at set w taken opened) i (location_of set.variables) f
    unfolding locate
    located_is f l i taken opened = sym (l.is i taken opened)

    -- ---- no row

    module _ (e : Reason) (l : Located set w root follows (Err e)) where
      pub copy_stops : Copied set w root follows (Err e)
      unfolding run_copy ◌>>=◌
      copy_stops = record { sound = tt; is = λ i taken opened. sym (rw (located_is (Err e) l i taken opened)) }

      pub move_stops : Tidy set w → Moved set w root follows w (Err e)
      unfolding run_move ◌>>=◌
      move_stops t = record { tidy = t; sound = tt; is = λ i taken opened. sym (rw (located_is (Err e) l i taken opened)) }

      pub borrow_stops : Borrowed set w root follows (Err e)
      unfolding run_borrow ◌>>=◌
      borrow_stops = record { sound = tt; is = λ i taken opened. sym (rw (located_is (Err e) l i taken opened)) }

    -- ---- a row

    module _ (row : ℕ) (l : Located set w root follows (Ok row)) where
      pub copy_goes : (g : Result held.Value Reason) → Filled set w row g → Copied set w root follows g
      unfolding run_copy ◌>>=◌
      copy_goes g r = record { sound = r.sound; is = λ i taken opened. gave_held w taken opened i g ∙ sym (rw (located_is (Ok row) l i taken opened, ← r.is (state_at set w taken opened) i)) }

      pub move_held : (e : Reason) → Filled set w row (Err e) → Tidy set w → Moved set w root follows w (Err e)
      unfolding run_move ◌>>=◌
      move_held e r t = record { tidy = t; sound = tt; is = λ i taken opened. sym (rw (located_is (Ok row) l i taken opened, ← r.is (state_at set w taken opened) i)) }

      pub move_goes : (v : held.Value) → Filled set w row (Ok v) → (w' : List ℕ) → Written set w row (entry.Open value.Empty) w' → Moved set w root follows w' (Ok v)
      unfolding run_move ◌>>=◌
      move_goes v r w' t = record {
        tidy = t.tidy;
        sound = r.sound;
        is = λ i taken opened.
            ap (λ (S : Store). ok (record { store = S; taken = taken; opened = opened }, as_value set v)) t.is
            ∙ sym (rw (located_is (Ok row) l i taken opened, ← r.is (state_at set w taken opened) i));
      }

      pub borrow_goes : Borrowed set w root follows (Ok (value.Reference row))
      unfolding run_borrow ◌>>=◌
      borrow_goes = record { sound = l.inside; is = λ i taken opened. sym (rw (located_is (Ok row) l i taken opened)) }

    -- ---- numbers

    pub number_stops : (e : Reason) → Copied set w root follows (Err e) → Numbered set w root follows (Err e)
    unfolding ◌>>=◌
    number_stops e h = record { is = λ i taken opened. sym (number_copied (state_at set w taken opened) i (place_of root follows) ∙ rw (← h.is i taken opened)) }

    pub number_goes : (v : held.Value) (n : ℕ) → v ≡ value.Number n → Copied set w root follows (Ok v) → Numbered set w root follows (Ok n)
    unfolding ◌>>=◌ number_in
    number_goes v n q h = record { is = λ i taken opened. sym (number_copied (state_at set w taken opened) i (place_of root follows) ∙ rw (← h.is i taken opened, q)) }

    pub number_wrong : (v : held.Value) → ((n : ℕ) → v ≡ value.Number n → ⊥) → Copied set w root follows (Ok v) → Numbered set w root follows (Err WrongKind)
    unfolding ◌>>=◌
    number_wrong v n h = record {
      is = λ i taken opened.
          sym (number_copied (state_at set w taken opened) i (place_of root follows) ∙ rw (← h.is i taken opened) (no_number (state_at set w taken opened) i v n));
    }

  -- ---- the numbers at two places, and what f makes of them

  module _ (f : ℕ → ℕ → ℕ) (w : List ℕ) (root follows other others : ℕ) where
    pub pair_stops : (e : Reason) → Numbered set w root follows (Err e) → Paired set f w root follows other others (Err e)
    unfolding run_pair ◌>>=◌
    pair_stops e x = record { sound = tt; is = λ i taken opened. sym (rw (← x.is i taken opened)) }

    module _ (a : ℕ) (x : Numbered set w root follows (Ok a)) where
      pub pair_second : (e : Reason) → Numbered set w other others (Err e) → Paired set f w root follows other others (Err e)
      unfolding run_pair ◌>>=◌
      pair_second e y = record { sound = tt; is = λ i taken opened. sym (rw (← x.is i taken opened, ← y.is i taken opened)) }

      pub pair_goes : (b : ℕ) → Numbered set w other others (Ok b) → (p : ℕ) → p ≡ f a b → Paired set f w root follows other others (Ok (value.Number p))
      unfolding run_pair ◌>>=◌
      pair_goes b y p e = record { sound = tt; is = λ i taken opened. sym (rw (← x.is i taken opened, ← y.is i taken opened, ← e)) }
