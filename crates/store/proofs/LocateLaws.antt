-- Following, locating and reading rows of the lent numbers.
use Prim.Native.Nat.{ℕ, zero, suc, ◌+◌, ◌-◌, ◌≤◌, ◌<◌}
use native.Mathlib.Omega.{arith}
use native.Mathlib.Numerals.{sub-one}
use mathlib.Core.Path.{◌≡◌, refl, sym, ap, subst, ◌∙◌}
use mathlib.Core.Bool.{false}
use mathlib.Core.List.{List}
use Rattle.std.specs.Prelude.{Result, Ok, Err}
use Rattle.syntax.specs.Limits.{Limits, store_rows}
use Rattle.syntax.specs.Result.{ok, need, ◌>>=◌}
use Rattle.syntax.specs.declared.refusals.Reason.{Reason}
use Rattle.syntax.specs.declared.refusals.Reason.TheVariants.{NotThere, WrongKind}
use Rattle.dynamics.specs.Values.{Location, variable, open_with}
use Rattle.dynamics.specs.Store.{Store, is_open, State, Ran, fault}
use Rattle.dynamics.specs.Locate.{followed, locate_from, filled}
use Rattle.dynamics.specs.Encode.{location_of}
use Rattle.store.specs.Words.{store_of, as_value, as_row, value_held, Sound, Loaded}
use Rattle.store.specs.StoreParts.{state_at, told_at, Followed, Located, Filled}
use Rattle.store.specs.declared.store.Value as held
use Rattle.store.specs.declared.store.Value.TheVariants as value
use Rattle.store.specs.declared.store.Row as stored
use Rattle.store.specs.declared.store.Row.TheVariants as entry
use Rattle.dynamics.proofs.EncodeLaws.{variable_location, cell_location}

module _ (set : Limits) where
  -- ---- rows of the code

  -- A row without a value leads nowhere, and cannot be read.
  none_followed : (s : State) (i : ℕ) (e : stored.Row) → value_held e ≡ value.Empty → followed s i (as_row set e) ≡ fault 60 i s
  unfolding followed
  none_followed s i entry.Closed h = refl
  none_followed s i entry.GivenBack h = refl
  none_followed s i (entry.Open v) h = rw h

  none_filled : (s : State) (i : ℕ) (e : stored.Row) → value_held e ≡ value.Empty → filled s i (as_row set e) ≡ fault 60 i s
  unfolding filled
  none_filled s i entry.Closed h = refl
  none_filled s i entry.GivenBack h = refl
  none_filled s i (entry.Open v) h = rw h

  -- A row with one is open.
  pub held_open : (e : stored.Row) (v : held.Value) → value_held e ≡ v → (v ≡ value.Empty → ⊥) → as_row set e ≡ open_with (as_value set v)
  held_open entry.Closed v h n = absurd (n (sym h))
  held_open entry.GivenBack v h n = absurd (n (sym h))
  held_open (entry.Open u) v h n = ap (λ (x : held.Value). open_with (as_value set x)) h

  pub shut : (e : stored.Row) → ((v : held.Value) → e ≡ entry.Open v → ⊥) → is_open (as_row set e) ≡ false
  unfolding is_open
  shut entry.Closed n = refl
  shut entry.GivenBack n = refl
  shut (entry.Open v) n = absurd (n v refl)

  value_filled : (s : State) (i : ℕ) (v : held.Value) → (v ≡ value.Empty → ⊥) → filled s i (open_with (as_value set v)) ≡ ok (as_value set v)
  unfolding filled
  value_filled s i value.Empty n = absurd (n refl)
  value_filled s i (value.Number p) n = refl
  value_filled s i (value.Owner c) n = refl
  value_filled s i (value.Reference r) n = refl

  -- ---- following

  module _ (w : List ℕ) (r : ℕ) (e : stored.Row) (l : Loaded set w r e) where
    pub follow_none : value_held e ≡ value.Empty → Followed set w r (Err NotThere)
    follow_none h = record { inside = tt; is = λ s i. sym (ap (followed s i) l.is ∙ none_followed s i e h) }

    pub follow_owner : (c : ℕ) → value_held e ≡ value.Owner c → Followed set w r (Ok (set.variables + c))
    unfolding followed
    follow_owner c h = record {
      inside = let z : c < set.boxes = subst (Sound set) h l.sound in omega arith;
      is = λ s i. ap ok (cell_location set.variables c) ∙ sym (ap (followed s i) (l.is ∙ held_open e (value.Owner c) h (λ z. cc)));
    }

    pub follow_reference : (n : ℕ) → value_held e ≡ value.Reference n → Followed set w r (Ok n)
    unfolding followed
    follow_reference n h = record {
      inside = subst (Sound set) h l.sound;
      is = λ s i. sym (ap (followed s i) (l.is ∙ held_open e (value.Reference n) h (λ z. cc)));
    }

    pub follow_number : (n : ℕ) → value_held e ≡ value.Number n → Followed set w r (Err WrongKind)
    unfolding followed
    follow_number n h = record { inside = tt; is = λ s i. sym (ap (followed s i) (l.is ∙ held_open e (value.Number n) h (λ z. cc))) }

    -- ---- reading

    pub read_none : value_held e ≡ value.Empty → Filled set w r (Err NotThere)
    read_none h = record { sound = tt; is = λ s i. sym (ap (filled s i) l.is ∙ none_filled s i e h) }

    pub read_filled : (v : held.Value) → value_held e ≡ v → (v ≡ value.Empty → ⊥) → Filled set w r (Ok v)
    read_filled v h n = record {
      sound = subst (Sound set) h l.sound;
      is = λ s i. sym (ap (filled s i) (l.is ∙ held_open e v h n) ∙ value_filled s i v n);
    }

  -- ---- locating

  -- Where so many follows from a row on lead, the place leads.
  pub record Leading (w : List ℕ) (root follows row left : ℕ) : Type 0 where
    pub inside : row < store_rows set
    pub is : (i taken : ℕ) (opened : List ℕ) → locate_from (state_at set w taken opened) i (location_of set.variables row) left ≡ locate_from (state_at set w taken opened) i (variable root) follows

  pub leading_starts : (w : List ℕ) (root follows left : ℕ) → root < set.variables → left ≡ follows → Leading w root follows root left
  leading_starts w root follows left h e = record { inside = omega arith; is = λ i taken opened. rw (variable_location set.variables root h, e) }

  module _ (w : List ℕ) (root follows row left : ℕ) (h : Leading w root follows row left) where
    module _ (some : 0 < left) where
      one_more : (f : Result ℕ Reason) → Followed set w row f → (n i : ℕ) (s : State) → 0 < n → s.store ≡ store_of set w → locate_from s i (location_of set.variables row) n ≡ (told_at s i (location_of set.variables) f >>= λ m. locate_from s i m (n - 1))
      unfolding locate_from
      one_more f g zero i s z q = absurd (omega arith)
      one_more f g (suc n) i s z q = simp sub-one (ap (λ (m : Ran Location). m >>= λ k. locate_from s i k n) (ap (λ (S : Store). followed s i (S (location_of set.variables row))) q ∙ sym (g.is s i)))

      pub leading_stops : (r : Reason) → Followed set w row (Err r) → Located set w root follows (Err r)
      unfolding ◌>>=◌
      leading_stops r g = record { inside = tt; is = λ i taken opened. sym (one_more (Err r) g left i (state_at set w taken opened) some refl) ∙ h.is i taken opened }

      pub leading_goes : (after : ℕ) → after ≡ left - 1 → (n : ℕ) → Followed set w row (Ok n) → Leading w root follows n after
      unfolding ◌>>=◌
      leading_goes after e n g = record { inside = g.inside; is = λ i taken opened. rw e (sym (one_more (Ok n) g left i (state_at set w taken opened) some refl) ∙ h.is i taken opened) }

    module _ (none : left ≤ 0) (e : stored.Row) (l : Loaded set w row e) where
      ends : (n i : ℕ) (s : State) → n ≤ 0 → locate_from s i (location_of set.variables row) n ≡ (need (is_open (s.store (location_of set.variables row))) (record { number = 60; term = i; state = s }) >>= λ _. ok (location_of set.variables row))
      unfolding locate_from
      ends zero i s z = refl
      ends (suc n) i s z = absurd (omega arith)

      pub leading_shut : ((v : held.Value) → e ≡ entry.Open v → ⊥) → Located set w root follows (Err NotThere)
      unfolding need ◌>>=◌
      leading_shut n = record { inside = tt; is = λ i taken opened. sym (ends left i (state_at set w taken opened) none ∙ rw (l.is, shut e n)) ∙ h.is i taken opened }

      pub leading_ends : (v : held.Value) → e ≡ entry.Open v → Located set w root follows (Ok row)
      unfolding need is_open ◌>>=◌
      leading_ends v n = record { inside = h.inside; is = λ i taken opened. sym (ends left i (state_at set w taken opened) none ∙ rw (l.is, n)) ∙ h.is i taken opened }
