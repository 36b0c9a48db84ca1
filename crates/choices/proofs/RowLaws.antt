-- One number of the table: what is kept of it is given back, or joined with what the table has. Assumes nothing.
use Prim.Native.Nat.{ℕ, ◌≤◌, ◌<◌, min}
use native.Mathlib.Omega.{arith}
use mathlib.Core.Path.{◌≡◌, refl, sym, ap, ap₂, ◌∙◌}
use mathlib.Core.Bool.{Bool, true, false, false≢true, ◌&&◌}
use mathlib.Core.List.{List}
use lib.Dec.{leb, eqb}
use lib.ListN.{length}
use borrow.Author.Tests.{leb-true, leb-false, eqb-true}
use Rattle.syntax.specs.Result.{pick}
use Rattle.variables.specs.declared.table.Row.{Row}
use Rattle.variables.specs.declared.roots.Roots.{Roots}
use Rattle.variables.specs.declared.table.VariableState.{VariableState}
use Rattle.variables.specs.declared.table.Entry.{Entry}
use Rattle.variables.specs.declared.table.Entry.TheVariants as entry
use Rattle.statics.specs.Places.{unite}
use Rattle.statics.specs.Environment.{Borrow, places, borrow_end, live, borrow_of}
use Rattle.statics.specs.Choice.{earlier}
use Rattle.statics.specs.Roots.{left}
use Rattle.variables.specs.Chains.{chain_of}
use Rattle.variables.specs.Masks.{has, is_empty}
use Rattle.variables.specs.Table.{entry_word, links_at, long_at, roots_at, end_in, state_at, entry_at, end_roots, changed_state, TableFor, Stored}
use Rattle.choices.specs.declared.choice.KeptState.{KeptState}
use Rattle.choices.specs.Kept.{kept_now, restored, joined_with, Given, Exchanged}
use Rattle.variables.proofs.MaskLaws.{none_in}
use Rattle.variables.proofs.EntryLaws.{NotLive, slot_live, not_live}
use Rattle.variables.proofs.EndRoots.{end_united}
use Rattle.notes.proofs.StateLaws.{loaded_end, stored_as, given, unchanged, not_changed}
use Rattle.choices.proofs.KeptLaws.{kept_here}

-- ---- the earlier of two links

pub earlier_second : (a b : ℕ) → b ≤ a → earlier a b ≡ b
unfolding earlier
earlier_second a b h = go (leb a b) refl
  where
    go : (c : Bool) → leb a b ≡ c → pick c a b ≡ b
    go true e = let z = leb-true a b e in omega arith
    go false e = refl

pub earlier_is : (a b : ℕ) → earlier a b ≡ min a b
unfolding earlier
earlier_is a b = go (leb a b) refl
  where
    go : (c : Bool) → leb a b ≡ c → pick c a b ≡ min a b
    go true e = let z = leb-true a b e in omega arith
    go false e = let z = leb-false a b e in omega arith

-- What has nothing more adds nothing.
within : (a b : Bool) → pick a false b ≡ false → a ≡ pick b true a
within true true h = refl
within true false h = refl
within false b h = go b h
  where
    go : (b : Bool) → b ≡ false → false ≡ pick b true false
    go true e = sym e
    go false e = refl

-- What a comparison says.
pub same_kept : (a b : KeptState) → (eqb a.moved_from b.moved_from && (eqb a.roots.low b.roots.low && eqb a.roots.high b.roots.high)) ≡ true → a ≡ b
same_kept a b e = go (eqb a.moved_from b.moved_from) refl (eqb a.roots.low b.roots.low) refl (eqb a.roots.high b.roots.high) refl e
  where
    go : (p : Bool) → eqb a.moved_from b.moved_from ≡ p → (q : Bool) → eqb a.roots.low b.roots.low ≡ q → (r : Bool) → eqb a.roots.high b.roots.high ≡ r → (p && (q && r)) ≡ true → a ≡ b
    go true f true g true h k =
        let moved = eqb-true a.moved_from b.moved_from f in
        let low = eqb-true a.roots.low b.roots.low g in
        let high = eqb-true a.roots.high b.roots.high h in
        λ j. record { moved_from = moved j; roots = record { low = low j; high = high j } }
    go true f true g false h k = absurd (false≢true k)
    go true f false g r h k = absurd (false≢true k)
    go false f q g r h k = absurd (false≢true k)

-- ---- one number

module _ (n : ℕ) (env : List Row) (x : ℕ) (T : TableFor env n) (k now : KeptState) (read : now ≡ kept_now env x) where
  -- Nothing is written where both are the same.
  pub exchanged_same : k ≡ now → Exchanged n env k x env k
  exchanged_same e =
      let same = e ∙ read in
      let R = unchanged env n x T (restored env k) refl refl
      (ap (λ (j : KeptState). live (record { chain = chain_of (links_at env x); moved_from = j.moved_from; borrow = end_in env (chain_of (links_at env x)) j.roots; level = entry_word env x 5 })) same) in
      record { given = record { state = R.0; table = R.1; links = R.2 }; here = kept_here env x k same }

  -- What the table has stays where it has no less.
  pub joined_same : (more : Roots) → now.moved_from ≤ k.moved_from → ((y : ℕ) → has more y ≡ pick (has now.roots y) false (has k.roots y)) → is_empty more ≡ true
      → Given n env x (joined_with env k) env
  unfolding borrow_of
  joined_same more l m none =
      let ks = chain_of (links_at env x) in
      let moved : now.moved_from ≡ entry_word env x 4 = ap (λ (j : KeptState). j.moved_from) read in
      let roots : now.roots ≡ roots_at env x = ap (λ (j : KeptState). j.roots) read in
      let all : (y : ℕ) → has (roots_at env x) y ≡ pick (has k.roots y) true (has (roots_at env x) y) =
      λ y. within (has (roots_at env x) y) (has k.roots y) (ap (λ (t : Roots). pick (has t y) false (has k.roots y)) (sym roots) ∙ sym (m y) ∙ none_in more none y) in
      let R = unchanged env n x T (joined_with env k) refl refl
      (ap₂ (λ (w : ℕ) (b : Borrow). live (record { chain = ks; moved_from = w; borrow = b; level = entry_word env x 5 }))
      (earlier_second k.moved_from (entry_word env x 4) (omega (arith, moved, l)))
      (sym (end_united ks (long_at env) (left ks) k.roots (roots_at env x) (roots_at env x) all))) in
      record { state = R.0; table = R.1; links = R.2 }

  module _ (o : Entry) (loaded : o ≡ entry_at env x) where
    -- Nor is anything kept or joined of a number that is not in scope.
    pub exchanged_dead : NotLive o → Exchanged n env k x env k
    exchanged_dead dead =
        let R = not_changed env n x T o loaded dead (restored env k) refl refl in
        record { given = record { state = R.0; table = R.1; links = R.2 }; here = λ v q. absurd (not_live env x o loaded dead v q) }

    pub joined_dead : NotLive o → Given n env x (joined_with env k) env
    joined_dead dead = let R = not_changed env n x T o loaded dead (joined_with env k) refl refl in record { state = R.0; table = R.1; links = R.2 }

    module _ (inside : x < n) (v r : VariableState) (found : o ≡ entry.Live v) (env' : List Row) (same : length env' ≡ length env) (S : Stored n env x r env') where
      state_is_law : v ≡ state_at env x
      state_is_law = (slot_live env x o loaded v found).1

      -- The state that x had is kept.
      pub exchanged_put : r ≡ changed_state v k.moved_from k.roots → Exchanged n env k x env' now
      exchanged_put made =
          let R = given env n x T inside k.moved_from k.roots env' same (stored_as env n x T inside v r state_is_law k.moved_from k.roots made env' same S k.moved_from refl) (restored env k) refl refl refl in
          record { given = record { state = R.0; table = R.1; links = R.2 }; here = kept_here env x now read }

      pub joined_put : (old : Roots) → old ≡ end_roots v.borrow_end → (w : ℕ) (all : Roots) → ((y : ℕ) → has all y ≡ pick (has k.roots y) true (has old y))
          → w ≡ earlier k.moved_from v.moved_from → r ≡ changed_state v w all → Given n env x (joined_with env k) env'
      unfolding borrow_of state_at
      joined_put old was w all both first made =
          let ks = chain_of (links_at env x) in
          let moved : v.moved_from ≡ entry_word env x 4 = ap (λ (u : VariableState). u.moved_from) state_is_law in
          let R = given env n x T inside w all env' same (stored_as env n x T inside v r state_is_law w all made env' same S w refl) (joined_with env k) refl refl
          (ap₂ (λ (j : ℕ) (b : Borrow). live (record { chain = ks; moved_from = j; borrow = b; level = entry_word env x 5 }))
          (sym (first ∙ ap (earlier k.moved_from) moved))
          (sym (end_united ks (long_at env) (left ks) k.roots old all both
          ∙ ap (λ (b : Borrow). borrow_end ks (unite (places (end_in env ks k.roots)) (places b))) (loaded_end env n x T inside v state_is_law old was)))) in
          record { state = R.0; table = R.1; links = R.2 }
