-- A variable put into the table at the end of its let: nothing records it before, so no other borrow end changes with its links. Assumes nothing.
use Prim.Native.Nat.{ℕ, suc, ◌<◌, ◌≤◌}
use native.Mathlib.Omega.{arith}
use native.Mathlib.Decide.{dec_lt}
use mathlib.Core.Path.{◌≡◌, refl, sym, ap, ◌∙◌, subst}
use mathlib.Core.Bool.{Bool, true, false, true≢false}
use mathlib.Core.List.{List, [], ◌∷◌}
use lib.Dec.{leb, eqb}
use lib.ListN.{length}
use borrow.Author.Tests.{eq-eqb, ne_eqb}
use Rattle.variables.specs.declared.table.Row.{Row}
use Rattle.variables.specs.declared.roots.Roots.{Roots}
use Rattle.variables.specs.declared.table.BorrowEnd.TheVariants as end
use Rattle.variables.specs.declared.table.VariableState.{VariableState}
use Rattle.statics.specs.Links.{Link, boxed, shared, exclusive}
use Rattle.statics.specs.Places.{rooted}
use Rattle.statics.specs.Environment.{Borrow, places, Variable, Slot, used, live, is_free, borrow_of, update}
use Rattle.variables.specs.Chains.{chain_of, is_exclusive}
use Rattle.variables.specs.Masks.{has}
use Rattle.variables.specs.Table.{entry_word, links_at, roots_at, holders_at, end_in, variable_at, environment_of, note_at, borrow_end_of, state_at, as_variable, Fits, TableFor, Stored, ExclusiveNoted, MemberAdded, Unrecorded}
use Rattle.statics.proofs.RootLaws.{or, or_right}
use Rattle.variables.proofs.EntryLaws.{status_live}
use Rattle.variables.proofs.WordLaws.{put_at_law, put_off, roots_same, holders_same, links_same, end_same_but, slot_same, updated}
use Rattle.variables.proofs.TableLaws.{Put}
use Rattle.variables.proofs.TableLaws.{SameEntry, slot_free, free_test, past_status, pick_true}
use Rattle.notes.proofs.NoteLaws.{still_noted}
use Rattle.notes.proofs.StateLaws.{state_variable}

end_exclusive : (ks : List Link) (s : Roots) → is_exclusive ks ≡ true → borrow_end_of ks s ≡ end.Exclusive s
unfolding is_exclusive borrow_end_of
end_exclusive [] s h = absurd (true≢false (sym h))
end_exclusive (boxed ∷ ks) s h = end_exclusive ks s h
end_exclusive (shared ∷ ks) s h = absurd (true≢false (sym h))
end_exclusive (exclusive ∷ ks) s h = refl

module _ (env : List Row) (n x : ℕ) (T : TableFor env n) (inside : x < n) (taken : environment_of env x ≡ used) (v : VariableState) (fits : Fits v)
    (U : Unrecorded env x (as_variable env v).borrow) (env₁ env₂ env₃ env₄ : List Row) (same : length env₄ ≡ length env)
    (P : Put env x 0 2 env₁) (S : Stored n env₁ x v env₂) (X : ExclusiveNoted n env₂ x v.borrow_end env₃) (M : MemberAdded env₃ (suc n) x env₄) where
  -- After the state of x is stored only the sets past the n variables change.
  store_off : (y k : ℕ) → k < 9 → (n ≤ y → (k ≡ 2 → ⊥) × (k ≡ 6 → ⊥)) → entry_word env₄ y k ≡ entry_word env₂ y k
  store_off y k l h = M.others y k l (λ q. h (omega arith)) ∙ X.others y k l (λ q. h (omega arith))

  -- Until then the words of the others stay, but for notes.
  apart : (y k : ℕ) → k < 9 → (k ≡ 3 → ⊥) → (k ≡ 7 → ⊥) → (x ≡ y → ⊥) → entry_word env₂ y k ≡ entry_word env y k
  apart y k l a b q = S.entries y k l a b (λ p. absurd (q p)) ∙ put_off env env₁ x 0 2 P y k l (λ p e. q p)

  store_others : (y : ℕ) → y < n → (x ≡ y → ⊥) → SameEntry env env₄ y
  store_others y i q k l a b = store_off y k (omega arith) (λ h. absurd (omega arith)) ∙ apart y k (omega arith) a b q

  -- Status and links of all others stay.
  store_apart : (y k : ℕ) → k < 2 → (x ≡ y → ⊥) → entry_word env₄ y k ≡ entry_word env y k
  store_apart y k l q = store_off y k (omega arith) (λ h. (λ e. omega arith, λ e. omega arith)) ∙ apart y k (omega arith) (λ e. omega arith) (λ e. omega arith) q

  store_holders : (r : ℕ) → holders_at env₄ r ≡ holders_at env₂ r
  store_holders r =
      holders_same env₂ env₄ r
      (store_off r 3 (omega arith) (λ h. (λ e. omega arith, λ e. omega arith)))
      (store_off r 7 (omega arith) (λ h. (λ e. omega arith, λ e. omega arith)))

  holders_before : (r : ℕ) → holders_at env₁ r ≡ holders_at env r
  holders_before r = holders_same env env₁ r (put_off env env₁ x 0 2 P r 3 (omega arith) (λ p e. omega arith)) (put_off env env₁ x 0 2 P r 7 (omega arith) (λ p e. omega arith))

  -- The links of the others stay, and those of x are none of a recorded place.
  store_ends : (ks : List Link) (t : Roots) → rooted (places (end_in env ks t)) x ≡ false → end_in env₄ ks t ≡ end_in env ks t
  store_ends ks t h =
      end_same_but env env₄ x (omega (arith, T.1)) (λ y q. links_same env env₄ y (store_apart y 1 (omega arith) q)) ks t h

  -- The words of x, which is one of the n variables, are those stored.
  store_own_word : (k : ℕ) → k < 9 → entry_word env₄ x k ≡ entry_word env₂ x k
  store_own_word k l = store_off x k l (λ h. absurd (omega arith))

  store_roots : roots_at env₄ x ≡ roots_at env₂ x
  store_roots = roots_same env₂ env₄ x (store_own_word 2 (omega arith)) (store_own_word 6 (omega arith))

  store_state : state_at env₄ x ≡ v
  unfolding state_at
  store_state = rw (store_own_word 1 (omega arith), store_own_word 4 (omega arith), store_own_word 5 (omega arith), store_roots) S.state

  store_variable : variable_at env₄ x ≡ as_variable env v
  store_variable =
      let ks = chain_of (links_at env₄ x) in
      let said = sym (state_variable env env₄ x) ∙ ap (as_variable env) store_state in
      let out : rooted (places (end_in env ks (roots_at env₄ x))) x ≡ false = ap (λ (w : Variable). rooted (places w.borrow) x) said ∙ U.1 in
      ap (λ (b : Borrow). record { chain = ks; moved_from = entry_word env₄ x 4; borrow = b; level = entry_word env₄ x 5 }) (store_ends ks (roots_at env₄ x) out) ∙ said

  store_status : entry_word env₄ x 0 ≡ 2
  store_status = store_own_word 0 (omega arith) ∙ S.entries x 0 (omega arith) (λ k. omega arith) (λ k. omega arith) (λ p. refl) ∙ put_at_law env env₁ x 0 2 P (omega arith)

  store_slot : (y : ℕ) → (x ≡ y → ⊥) → environment_of env₄ y ≡ environment_of env y
  unfolding borrow_of
  store_slot y q = go (dec_lt y n)
    where
      out : 2 ≤ entry_word env y 0 → rooted (places (borrow_of (live (variable_at env y)))) x ≡ false
      out l = subst (λ (k : Slot). rooted (places (borrow_of k)) x ≡ false) (status_live env y l) (U.0 y)

      go : Dec (y < n) → environment_of env₄ y ≡ environment_of env y
      go (yes i) = slot_same env env₄ y (store_others y i q) (λ l. store_ends (chain_of (links_at env y)) (roots_at env y) (out l))
      go (no i) =
          let past = past_status env n T y (omega arith) in
          slot_free env₄ y (store_apart y 0 (omega arith) q ∙ past) ∙ sym (slot_free env y past)

  store_environment : environment_of env₄ ≡ update (environment_of env) x (live (as_variable env v))
  store_environment =
      updated env env₄ x (live (as_variable env v)) store_slot
      (status_live env₄ x (omega (arith, store_status)) ∙ ap live store_variable)

  store_kept : (r y : ℕ) → r < n → has (holders_at env r) y ≡ true → has (holders_at env₄ r) y ≡ true
  store_kept r y l h = ap (λ (k : Roots). has k y) (store_holders r) ∙ S.kept r y l (ap (λ (k : Roots). has k y) (holders_before r) ∙ h)

  store_own : (r : ℕ) → r < n → 2 ≤ entry_word env₄ x 0 → has (roots_at env₄ x) r ≡ true → has (holders_at env₄ r) x ≡ true
  store_own r l a h = ap (λ (k : Roots). has k x) (store_holders r) ∙ S.new r l (ap (λ (k : Roots). has k r) (sym store_roots) ∙ h)

  -- Until its own step each set past the n variables is as it was.
  sets_before : (y : ℕ) → n ≤ y → roots_at env₂ y ≡ roots_at env y
  sets_before y l =
      roots_same env env₂ y
      (apart y 2 (omega arith) (λ e. omega arith) (λ e. omega arith) (λ p. omega arith))
      (apart y 6 (omega arith) (λ e. omega arith) (λ e. omega arith) (λ p. omega arith))

  store_exclusives : roots_at env₄ n ≡ roots_at env₃ n
  store_exclusives = roots_same env₃ env₄ n (M.others n 2 (omega arith) (λ q. absurd (omega arith))) (M.others n 6 (omega arith) (λ q. absurd (omega arith)))

  store_scope : (y : ℕ) → has (roots_at env₄ (suc n)) y ≡ or (has (roots_at env (suc n)) y) (eqb x y)
  store_scope y =
      let before : roots_at env₃ (suc n) ≡ roots_at env (suc n) =
      roots_same env₂ env₃ (suc n) (X.others (suc n) 2 (omega arith) (λ q. absurd (omega arith))) (X.others (suc n) 6 (omega arith) (λ q. absurd (omega arith)))
      ∙ sets_before (suc n) (omega arith) in
      M.members y ∙ ap (λ (k : Roots). or (has k y) (eqb x y)) before

  store_note : note_at env₄ (suc n) ≡ note_at env (suc n)
  store_note =
      store_off (suc n) 8 (omega arith) (λ h. (λ e. omega arith, λ e. omega arith))
      ∙ S.notes (suc n) (omega arith)
      ∙ put_off env env₁ x 0 2 P (suc n) 8 (omega arith) (λ p e. omega arith)

  -- Where the links of x borrow exclusively, its end does.
  store_exclusive : is_exclusive (chain_of (links_at env₄ x)) ≡ true → v.borrow_end ≡ end.Exclusive (roots_at env₄ x)
  unfolding state_at
  store_exclusive h = ap (λ (w : VariableState). w.borrow_end) (sym store_state) ∙ end_exclusive (chain_of (links_at env₄ x)) (roots_at env₄ x) h

  -- A number taken is below the note of the last row.
  store_below : note_at env (suc n) ≤ x → ⊥
  unfolding is_free
  store_below h = true≢false (sym (eq-eqb (entry_word env x 0) 0 (T.2.untaken x h)) ∙ free_test env x ∙ ap is_free taken)

  store_table : TableFor env₄ n
  store_table = (
    same ∙ T.0,
    T.1,
    still_noted env n x T.2 inside env₄ store_others (λ y q. store_apart y 0 (omega arith) q) store_kept store_own
        (λ y h. ap (λ (k : Roots). has k y) store_exclusives ∙ X.kept y (ap (λ (k : Roots). has k y) (sets_before n (omega arith)) ∙ h))
        (λ l h. ap (λ (k : Roots). has k x) store_exclusives ∙ X.new (roots_at env₄ x) (store_exclusive h))
        (λ y q. store_scope y ∙ ap (λ (b : Bool). or (has (roots_at env (suc n)) y) b) (ne_eqb x y q) ∙ pick_true (has (roots_at env (suc n)) y))
        (store_scope x ∙ or_right (has (roots_at env (suc n)) x) (eqb x x) (eq-eqb x x refl) ∙ sym (ap (leb 2) store_status))
        (omega (arith, store_note))
        (omega (arith, store_note, T.2.most))
        (λ h. absurd (store_below (omega (arith, store_note)))),
  )

  pub declared : (environment_of env₄ ≡ update (environment_of env) x (live (as_variable env v))) × TableFor env₄ n
  declared = (store_environment, store_table)
