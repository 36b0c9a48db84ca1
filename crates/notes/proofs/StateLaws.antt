-- The state of one variable changes: from where it is moved away, its roots, or both. Its links stay, so that every borrow end is as it was.
-- Assumes nothing.
use Prim.Native.Nat.{ℕ, suc, ◌<◌, ◌≤◌}
use native.Mathlib.Omega.{arith}
use native.Mathlib.Decide.{ℕ_discrete}
use mathlib.Core.Path.{◌≡◌, refl, sym, ap, ap₂, ◌∙◌, subst}
use mathlib.Core.Bool.{true}
use mathlib.Core.List.{List}
use lib.Dec.{leb}
use lib.ListN.{length}
use Rattle.variables.specs.declared.table.Row.{Row}
use Rattle.variables.specs.declared.roots.Roots.{Roots}
use Rattle.variables.specs.declared.table.VariableState.{VariableState}
use Rattle.variables.specs.declared.table.Entry.{Entry}
use Rattle.statics.specs.Links.{leading_boxes}
use Rattle.statics.specs.Places.{unite}
use Rattle.statics.specs.Environment.{Borrow, places, borrow_end, Slot, free, used, live, update, moved_away_at, refilled, widened}
use Rattle.statics.specs.Roots.{left}
use Rattle.variables.specs.Chains.{chain_of}
use Rattle.variables.specs.Masks.{has}
use Rattle.variables.specs.Table.{entry_word, links_at, long_at, roots_at, holders_at, note_at, places_in, end_in, variable_of, variable_at, slot_as, environment_of, state_at, end_roots, entry_at, as_variable, Fits, changed_state, TableFor, Stored, SameLinks}
use Rattle.statics.proofs.RootLaws.{or}
use Rattle.variables.proofs.EndLaws.{told_variable, end_fits, end_own}
use Rattle.variables.proofs.EndRoots.{end_united}
use Rattle.variables.proofs.EntryLaws.{NotLive, not_live}
use Rattle.variables.proofs.TableLaws.{SameEntry, kept_end}
use Rattle.variables.proofs.WordLaws.{put_at_law, put_off, roots_same, holders_same, links_same, slot_same, updated, slot_changed}
use Rattle.variables.proofs.TableLaws.{Put}
use Rattle.notes.proofs.NoteLaws.{noted_as_before}

-- What the words of x say, with the links of the others as another table has them.
pub state_variable : (env env' : List Row) (x : ℕ)
    → as_variable env (state_at env' x) ≡ variable_of env (links_at env' x) (entry_word env' x 4) (roots_at env' x) (entry_word env' x 5)
unfolding state_at
state_variable env env' x = told_variable env (links_at env' x) (entry_word env' x 4) (roots_at env' x) (entry_word env' x 5)

-- The same of a state that was changed.
changed_variable : (env : List Row) (x d : ℕ) (s : Roots)
    → as_variable env (changed_state (state_at env x) d s) ≡ variable_of env (links_at env x) d s (entry_word env x 5)
unfolding state_at changed_state
changed_variable env x d s = told_variable env (links_at env x) d s (entry_word env x 5)

module _ (env : List Row) (n x : ℕ) (T : TableFor env n) (inside : x < n) where
  -- The words of x may change but for its status, and who may hold a borrow of a root that it records is noted.
  module _ (env' : List Row) (same : length env' ≡ length env)
      (off : (y k : ℕ) → k < 9 → (k ≡ 3 → ⊥) → (k ≡ 7 → ⊥) → (x ≡ y → k ≡ 0) → entry_word env' y k ≡ entry_word env y k)
      (links : links_at env' x ≡ links_at env x) (notes : (y : ℕ) → n ≤ y → note_at env' y ≡ note_at env y)
      (kept : (r y : ℕ) → r < n → has (holders_at env r) y ≡ true → has (holders_at env' r) y ≡ true)
      (own : (r : ℕ) → r < n → 2 ≤ entry_word env x 0 → has (roots_at env' x) r ≡ true → has (holders_at env' r) x ≡ true) where
    others : (y : ℕ) → (x ≡ y → ⊥) → SameEntry env env' y
    others y q k l a b = off y k (omega arith) a b (λ p. absurd (q p))

    status : entry_word env' x 0 ≡ entry_word env x 0
    status = off x 0 (omega arith) (λ q. omega arith) (λ q. omega arith) (λ p. refl)

    same_links_law : SameLinks env env'
    same_links_law y = go (ℕ_discrete x y)
      where
        go : Dec (x ≡ y) → links_at env' y ≡ links_at env y
        go (yes q) = subst (λ (z : ℕ). links_at env' z ≡ links_at env z) q links
        go (no q) = links_same env env' y (others y q 1 (omega arith) (λ k. omega arith) (λ k. omega arith))

    module _ (f : Slot → Slot) (none : f free ≡ free) (taken : f used ≡ used) (there : f (live (variable_at env x)) ≡ live (variable_at env' x)) where
      changed_slot : environment_of env' x ≡ f (environment_of env x)
      unfolding environment_of
      changed_slot =
          ap (λ (k : ℕ). slot_as k (variable_at env' x)) status
          ∙ slot_changed f (variable_at env x) (variable_at env' x) none taken there (entry_word env x 0)

      changed_environment : environment_of env' ≡ update (environment_of env) x (f (environment_of env x))
      changed_environment =
          updated env env' x (f (environment_of env x))
          (λ y q. slot_same env env' y (others y q) (λ l. kept_end env env' same_links_law (chain_of (links_at env y)) (roots_at env y)))
          changed_slot

      changed : (environment_of env' ≡ update (environment_of env) x (f (environment_of env x))) × TableFor env' n × SameLinks env env'
      changed =
          let at_next = notes (suc n) (omega arith) in (
            changed_environment,
            (
              same ∙ T.0,
              T.1,
              noted_as_before env n x T.2 inside env' others links (ap (leb 2) status) kept (λ r l a h. own r l (subst (λ (k : ℕ). 2 ≤ k) status a) h)
                  (omega arith) (omega (arith, T.2.most)) (λ h. status ∙ T.2.untaken x (omega arith)),
            ),
            same_links_law,
          )

  pub moved_away_law : (k : ℕ) (env₁ : List Row) → length env₁ ≡ length env → Put env x 4 k env₁
      → (environment_of env₁ ≡ update (environment_of env) x (moved_away_at (environment_of env x) k)) × TableFor env₁ n × SameLinks env env₁
  moved_away_law k env₁ same put =
      changed env₁ same (λ y j l a b c. off y j l (λ p. omega (arith, c p))) (links x)
      (λ y l. word y 8 (omega arith) (λ q. omega arith))
      (λ r y l h. ap (λ (s : Roots). has s y) (holders r) ∙ h)
      (λ r l a h. ap (λ (s : Roots). has s x) (holders r) ∙ T.2.held x r inside l a (ap (λ (s : Roots). has s r) (sym roots) ∙ h))
      (λ (z : Slot). moved_away_at z k) refl refl (ap live (sym variable))
    where
      off : (y j : ℕ) → j < 9 → (x ≡ y → 4 ≡ j → ⊥) → entry_word env₁ y j ≡ entry_word env y j
      off y j l q = put_off env env₁ x 4 k put y j l q

      word : (y j : ℕ) → j < 9 → (4 ≡ j → ⊥) → entry_word env₁ y j ≡ entry_word env y j
      word y j l q = off y j l (λ p. q)

      holders : (r : ℕ) → holders_at env₁ r ≡ holders_at env r
      holders r = holders_same env env₁ r (word r 3 (omega arith) (λ q. omega arith)) (word r 7 (omega arith) (λ q. omega arith))

      links : SameLinks env env₁
      links y = links_same env env₁ y (word y 1 (omega arith) (λ q. omega arith))

      roots : roots_at env₁ x ≡ roots_at env x
      roots = roots_same env env₁ x (word x 2 (omega arith) (λ q. omega arith)) (word x 6 (omega arith) (λ q. omega arith))

      variable : variable_at env₁ x ≡ variable_of env (links_at env x) k (roots_at env x) (entry_word env x 5)
      variable = rw (links x, put_at_law env env₁ x 4 k put (omega arith), word x 5 (omega arith) (λ q. omega arith), roots, kept_end env env₁ links (chain_of (links_at env x)) (roots_at env x))

  -- It is given another state, with the links and the level that it has.
  module _ (d : ℕ) (s : Roots) (env' : List Row) (same : length env' ≡ length env) (S : Stored n env x (changed_state (state_at env x) d s) env') where
    given_links : links_at env' x ≡ links_at env x
    unfolding state_at changed_state
    given_links = ap (λ (v : VariableState). v.links) S.state

    given_variable : variable_at env' x ≡ variable_of env (links_at env x) d s (entry_word env x 5)
    given_variable =
        let L = same_links_law env' same S.entries given_links S.notes S.kept (λ r l a h. S.new r l h) in
        ap (λ (b : Borrow). record { chain = chain_of (links_at env' x); moved_from = entry_word env' x 4; borrow = b; level = entry_word env' x 5 })
        (kept_end env env' L (chain_of (links_at env' x)) (roots_at env' x))
        ∙ sym (state_variable env env' x)
        ∙ ap (as_variable env) S.state
        ∙ changed_variable env x d s

    pub given : (f : Slot → Slot) → f free ≡ free → f used ≡ used → f (live (variable_at env x)) ≡ live (variable_of env (links_at env x) d s (entry_word env x 5))
        → (environment_of env' ≡ update (environment_of env) x (f (environment_of env x))) × TableFor env' n × SameLinks env env'
    given f none taken there = changed env' same S.entries given_links S.notes S.kept (λ r l a h. S.new r l h) f none taken (there ∙ ap live (sym given_variable))

  -- The roots of the end that was loaded stand for the places that the table's do.
  pub loaded_end : (v : VariableState) → v ≡ state_at env x → (old : Roots) → old ≡ end_roots v.borrow_end
      → end_in env (chain_of (links_at env x)) old ≡ end_in env (chain_of (links_at env x)) (roots_at env x)
  unfolding state_at
  loaded_end v loaded old read =
      let ks = chain_of (links_at env x) in
      ap (end_in env ks) (read ∙ ap (λ (w : VariableState). end_roots w.borrow_end) loaded) ∙ end_own (places_in env ks) ks (roots_at env x)

  module _ (v r : VariableState) (loaded : v ≡ state_at env x) (d : ℕ) (s : Roots) (made : r ≡ changed_state v d s)
      (env' : List Row) (same : length env' ≡ length env) (S : Stored n env x r env') where
    -- The state that is stored, from the words of the table.
    pub stored_as : (k : ℕ) → d ≡ k → Stored n env x (changed_state (state_at env x) k s) env'
    stored_as k e = subst (λ (w : VariableState). Stored n env x w env') (made ∙ ap₂ (λ (w : VariableState) (j : ℕ). changed_state w j s) loaded e) S

    pub refilled_by : d ≡ suc (leading_boxes (chain_of v.links))
        → (environment_of env' ≡ update (environment_of env) x (refilled (environment_of env x) (end_in env (chain_of (links_at env x)) s))) × TableFor env' n × SameLinks env env'
    unfolding state_at
    refilled_by whole =
        let k = suc (leading_boxes (chain_of (links_at env x))) in
        given k s env' same (stored_as k (whole ∙ ap (λ (w : VariableState). suc (leading_boxes (chain_of w.links))) loaded))
        (λ (z : Slot). refilled z (end_in env (chain_of (links_at env x)) s)) refl refl refl

    pub widened_by : (old more : Roots) → old ≡ end_roots v.borrow_end → ((y : ℕ) → has s y ≡ or (has old y) (has more y)) → d ≡ v.moved_from
        → (environment_of env' ≡ update (environment_of env) x (widened (environment_of env x) (end_in env (chain_of (links_at env x)) more))) × TableFor env' n × SameLinks env env'
    unfolding state_at
    widened_by old more read either stays =
        let ks = chain_of (links_at env x) in
        given (entry_word env x 4) s env' same (stored_as (entry_word env x 4) (stays ∙ ap (λ (w : VariableState). w.moved_from) loaded))
        (λ (z : Slot). widened z (end_in env ks more)) refl refl
        (ap (λ (b : Borrow). live (record { chain = ks; moved_from = entry_word env x 4; borrow = b; level = entry_word env x 5 }))
        (sym (end_united ks (long_at env) (left ks) old more s either ∙ ap (λ (b : Borrow). borrow_end ks (unite (places b) (places (end_in env ks more)))) (loaded_end v loaded old read))))

-- A state that was changed has the end that its links say.
pub changed_fits : (r v : VariableState) (d : ℕ) (s : Roots) → r ≡ changed_state v d s → Fits r
unfolding changed_state
changed_fits r v d s made = subst Fits (sym made) (end_fits (chain_of v.links) s)

-- Nothing is stored where x has the state already.
pub unchanged : (env : List Row) (n x : ℕ) → TableFor env n → (f : Slot → Slot) → f free ≡ free → f used ≡ used
    → f (live (variable_at env x)) ≡ live (variable_at env x)
    → (environment_of env ≡ update (environment_of env) x (f (environment_of env x))) × TableFor env n × SameLinks env env
unfolding environment_of
unchanged env n x T f none taken there =
    (updated env env x (f (environment_of env x)) (λ y q. refl) (slot_changed f (variable_at env x) (variable_at env x) none taken there (entry_word env x 0)), T, λ y. refl)

-- What an `else` knows: the number is not in scope, and stays as it is.
pub not_changed : (env : List Row) (n x : ℕ) → TableFor env n → (e : Entry) → e ≡ entry_at env x → NotLive e → (f : Slot → Slot) → f free ≡ free → f used ≡ used
    → (environment_of env ≡ update (environment_of env) x (f (environment_of env x))) × TableFor env n × SameLinks env env
not_changed env n x T e loaded other f none taken = (updated env env x (f (environment_of env x)) (λ y q. refl) (go (environment_of env x) refl), T, λ y. refl)
  where
    go : (z : Slot) → environment_of env x ≡ z → environment_of env x ≡ f (environment_of env x)
    go free q = q ∙ sym none ∙ ap f (sym q)
    go used q = q ∙ sym taken ∙ ap f (sym q)
    go (live v) q = absurd (not_live env x e loaded other v q)
