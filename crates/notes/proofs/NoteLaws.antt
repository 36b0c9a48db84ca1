-- The notes stay right: when the entry of one variable changes, and while it is noted who may hold a borrow. Assumes nothing.
use Prim.Native.Nat.{ℕ, suc, ◌<◌, ◌≤◌}
use native.Mathlib.Omega.{arith}
use native.Mathlib.Decide.{ℕ_discrete}
use mathlib.Core.Path.{◌≡◌, refl, sym, ap, ap₂, ◌∙◌, subst}
use mathlib.Core.Bool.{Bool, true, false, true≢false}
use mathlib.Core.List.{List}
use lib.Dec.{leb, eqb}
use lib.ListN.{length}
use borrow.Author.Tests.{eqb-true, eq-eqb, ne_eqb, le-leb, leb-true}
use Rattle.syntax.specs.Result.{pick}
use Rattle.variables.specs.declared.table.Row.{Row}
use Rattle.variables.specs.declared.roots.Roots.{Roots}
use Rattle.variables.specs.declared.table.BorrowEnd.{BorrowEnd}
use Rattle.variables.specs.declared.table.BorrowEnd.TheVariants as end
use Rattle.statics.specs.Environment.{used, is_free, update}
use Rattle.variables.specs.Chains.{chain_of, is_exclusive}
use Rattle.variables.specs.Masks.{has}
use Rattle.variables.specs.Table.{entry_word, links_at, roots_at, holders_at, variable_at, slot_as, environment_of, note_at, Noted, TableFor, HolderNoted, MemberAdded, ExclusiveNoted, SameLinks}
use Rattle.statics.proofs.RootLaws.{or, or_left, or_right}
use Rattle.variables.proofs.WordLaws.{put_at_law, put_off, set_off, holders_put, Raised, raised_off, raised_there, holders_same, links_same, entry_links, entry_roots, end_same, slot_same, updated}
use Rattle.variables.proofs.TableLaws.{Put, PutSet}
use Rattle.variables.proofs.EntryLaws.{status_inside}
use Rattle.variables.proofs.TableLaws.{SameEntry, free_test}

-- ---- while holders are noted

-- Of the roots s those of `todo` are still to be noted.
pub record Noting (n : ℕ) (env : List Row) (x : ℕ) (s todo : Roots) (env' : List Row) : Type 0 where
  pub entries : (y k : ℕ) → k < 9 → (k ≡ 3 → ⊥) → (k ≡ 7 → ⊥) → entry_word env' y k ≡ entry_word env y k
  pub notes : (y : ℕ) → n ≤ y → note_at env' y ≡ note_at env y
  pub kept : (r y : ℕ) → r < n → has (holders_at env r) y ≡ true → has (holders_at env' r) y ≡ true
  pub new : (r : ℕ) → r < n → has s r ≡ true → has todo r ≡ false → has (holders_at env' r) x ≡ true

module _ (n : ℕ) (env : List Row) (x : ℕ) (s : Roots) where
  pub noting_starts : Noting n env x s s env
  noting_starts = record { entries = λ y k a b c. refl; notes = λ y l. refl; kept = λ r y l h. h; new = λ r l h k. absurd (true≢false (sym h ∙ k)) }

  pub noting_ends : (todo : Roots) (env' : List Row) → Noting n env x s todo env' → ((y : ℕ) → has todo y ≡ false) → HolderNoted n env x s env'
  noting_ends todo env' N none = record { entries = N.entries; notes = N.notes; kept = N.kept; new = λ r l h. N.new r l h (none r) }

  module _ (todo todo' : Roots) (root : ℕ) (env₁ : List Row) (N : Noting n env x s todo env₁) (less : (y : ℕ) → has todo' y ≡ pick (eqb root y) false (has todo y)) where
    -- What is not to be noted any more is the root, or was not to be noted before.
    done : (r : ℕ) → has todo' r ≡ false → (root ≡ r → ⊥) → has todo r ≡ false
    done r h q = sym (less r ∙ ap (λ (b : Bool). pick b false (has todo r)) (ne_eqb root r q)) ∙ h

    -- The table has no such row.
    pub noting_skips : n ≤ root → Noting n env x s todo' env₁
    noting_skips l = record { entries = N.entries; notes = N.notes; kept = N.kept; new = λ r b h k. N.new r b h (done r k (λ q. omega arith)) }

    -- x is added to the holders of the root.
    module _ (env₂ : List Row) (old one holders : Roots) (inside : root < n) (read : old ≡ holders_at env₁ root) (own : (y : ℕ) → has one y ≡ eqb x y)
        (more : (y : ℕ) → has holders y ≡ pick (has old y) true (has one y)) (put : PutSet env₁ root 3 holders env₂) where
      others : (r : ℕ) → (root ≡ r → ⊥) → holders_at env₂ r ≡ holders_at env₁ r
      others r q = holders_same env₁ env₂ r (set_off env₁ env₂ root 3 holders put r 3 (omega arith) (λ p k. q p) (λ p k. q p)) (set_off env₁ env₂ root 3 holders put r 7 (omega arith) (λ p k. q p) (λ p k. q p))

      at_root : (r y : ℕ) → root ≡ r → has (holders_at env₂ r) y ≡ or (has (holders_at env₁ r) y) (eqb x y)
      at_root r y q =
          subst (λ (k : ℕ). has (holders_at env₂ k) y ≡ or (has (holders_at env₁ k) y) (eqb x y)) q
          (ap (λ (h : Roots). has h y) (holders_put env₁ env₂ root holders put) ∙ more y ∙ ap₂ (λ (k : Roots) (b : Bool). or (has k y) b) read (own y))

      still : (r y : ℕ) → has (holders_at env₁ r) y ≡ true → has (holders_at env₂ r) y ≡ true
      still r y h = go (ℕ_discrete root r)
        where
          go : Dec (root ≡ r) → has (holders_at env₂ r) y ≡ true
          go (yes q) = at_root r y q ∙ ap (λ (b : Bool). or b (eqb x y)) h
          go (no q) = ap (λ (k : Roots). has k y) (others r q) ∙ h

      now_there : (r : ℕ) → root ≡ r → has (holders_at env₂ r) x ≡ true
      now_there r q = at_root r x q ∙ go (has (holders_at env₁ r) x)
        where
          go : (b : Bool) → or b (eqb x x) ≡ true
          go true = refl
          go false = eq-eqb x x refl

      pub noting_adds : Noting n env x s todo' env₂
      noting_adds =
          record {
            entries = λ y k a b c. set_off env₁ env₂ root 3 holders put y k a (λ p q. b (sym q)) (λ p q. c (sym q)) ∙ N.entries y k a b c;
            notes = λ y l. set_off env₁ env₂ root 3 holders put y 8 (omega arith) (λ p q. omega arith) (λ p q. omega arith) ∙ N.notes y l;
            kept = λ r y l h. still r y (N.kept r y l h);
            new = λ r l h k. new_at r l h k (ℕ_discrete root r);
          }
        where
          new_at : (r : ℕ) → r < n → has s r ≡ true → has todo' r ≡ false → Dec (root ≡ r) → has (holders_at env₂ r) x ≡ true
          new_at r l h k (yes q) = now_there r q
          new_at r l h k (no q) = still r x (N.new r l h (done r k q))

-- ---- that a borrow link is exclusive

module _ (n : ℕ) (env : List Row) (x : ℕ) (e : BorrowEnd) where
  pub exclusive_noted : (env' : List Row) → MemberAdded env n x env' → ExclusiveNoted n env x e env'
  exclusive_noted env' M =
      record {
        others = M.others;
        kept = λ y h. M.members y ∙ or_left (has (roots_at env n) y) (eqb x y) h;
        new = λ s h. M.members x ∙ or_right (has (roots_at env n) x) (eqb x x) (eq-eqb x x refl);
      }

  -- What an `else` knows: the end is not exclusive, so there is nothing to note.
  pub exclusive_not : ((s : Roots) → e ≡ end.Exclusive s → ⊥) → ExclusiveNoted n env x e env
  exclusive_not never = record { others = λ y k l h. refl; kept = λ y h. h; new = λ s h. absurd (never s h) }

-- ---- one entry changed

module _ (env : List Row) (n x : ℕ) (N : Noted env n) (inside : x < n) where
  -- The words of x change, and it is noted where it must be. Rows past the n variables keep their status; their sets may change at x.
  module _ (env' : List Row)
      (others : (y : ℕ) → y < n → (x ≡ y → ⊥) → SameEntry env env' y)
      (status : (y : ℕ) → (x ≡ y → ⊥) → entry_word env' y 0 ≡ entry_word env y 0)
      (kept : (r y : ℕ) → r < n → has (holders_at env r) y ≡ true → has (holders_at env' r) y ≡ true)
      (own : (r : ℕ) → r < n → 2 ≤ entry_word env' x 0 → has (roots_at env' x) r ≡ true → has (holders_at env' r) x ≡ true)
      (kept-exclusive : (y : ℕ) → has (roots_at env n) y ≡ true → has (roots_at env' n) y ≡ true)
      (own-exclusive : 2 ≤ entry_word env' x 0 → is_exclusive (chain_of (links_at env' x)) ≡ true → has (roots_at env' n) x ≡ true)
      (scope-off : (y : ℕ) → (x ≡ y → ⊥) → has (roots_at env' (suc n)) y ≡ has (roots_at env (suc n)) y)
      (scope-at : has (roots_at env' (suc n)) x ≡ leb 2 (entry_word env' x 0))
      (higher : note_at env (suc n) ≤ note_at env' (suc n)) (high : note_at env' (suc n) ≤ n)
      (none : note_at env' (suc n) ≤ x → entry_word env' x 0 ≡ 0) where
    new_held : (y r : ℕ) → y < n → r < n → 2 ≤ entry_word env' y 0 → has (roots_at env' y) r ≡ true → has (holders_at env' r) y ≡ true
    new_held y r a b l h = go (ℕ_discrete x y)
      where
        go : Dec (x ≡ y) → has (holders_at env' r) y ≡ true
        go (yes q) = subst (λ (z : ℕ). 2 ≤ entry_word env' z 0 → has (roots_at env' z) r ≡ true → has (holders_at env' r) z ≡ true) q (own r b) l h
        go (no q) =
            kept r y b (N.held y r a b (subst (λ (k : ℕ). 2 ≤ k) (status y q) l) (ap (λ (k : Roots). has k r) (sym (entry_roots env env' y (others y a q))) ∙ h))

    new_exclusives : (y : ℕ) → 2 ≤ entry_word env' y 0 → is_exclusive (chain_of (links_at env' y)) ≡ true → has (roots_at env' n) y ≡ true
    new_exclusives y l h = go (ℕ_discrete x y)
      where
        go : Dec (x ≡ y) → has (roots_at env' n) y ≡ true
        go (yes q) = subst (λ (z : ℕ). 2 ≤ entry_word env' z 0 → is_exclusive (chain_of (links_at env' z)) ≡ true → has (roots_at env' n) z ≡ true) q own-exclusive l h
        go (no q) =
            let before : 2 ≤ entry_word env y 0 = subst (λ (k : ℕ). 2 ≤ k) (status y q) l in
            let links = entry_links env env' y (others y (status_inside env n N y before) q) in
            kept-exclusive y (N.exclusives y before (ap (λ (k : ℕ). is_exclusive (chain_of k)) (sym links) ∙ h))

    new_scope : (y : ℕ) → has (roots_at env' (suc n)) y ≡ leb 2 (entry_word env' y 0)
    new_scope y = go (ℕ_discrete x y)
      where
        go : Dec (x ≡ y) → has (roots_at env' (suc n)) y ≡ leb 2 (entry_word env' y 0)
        go (yes q) = subst (λ (z : ℕ). has (roots_at env' (suc n)) z ≡ leb 2 (entry_word env' z 0)) q scope-at
        go (no q) = scope-off y q ∙ N.scope y ∙ ap (leb 2) (sym (status y q))

    new_untaken : (y : ℕ) → note_at env' (suc n) ≤ y → entry_word env' y 0 ≡ 0
    new_untaken y h = go (ℕ_discrete x y)
      where
        go : Dec (x ≡ y) → entry_word env' y 0 ≡ 0
        go (yes q) = subst (λ (z : ℕ). note_at env' (suc n) ≤ z → entry_word env' z 0 ≡ 0) q none h
        go (no q) = status y q ∙ N.untaken y (omega arith)

    pub still_noted : Noted env' n
    still_noted = record { held = new_held; exclusives = new_exclusives; scope = new_scope; most = high; untaken = new_untaken }

  -- The sets past the n variables stay: x has the links that it had, and is in scope if it was.
  module _ (env' : List Row) (others : (y : ℕ) → (x ≡ y → ⊥) → SameEntry env env' y)
      (links : links_at env' x ≡ links_at env x) (live-as : leb 2 (entry_word env' x 0) ≡ leb 2 (entry_word env x 0)) where
    pub noted_as_before : ((r y : ℕ) → r < n → has (holders_at env r) y ≡ true → has (holders_at env' r) y ≡ true)
        → ((r : ℕ) → r < n → 2 ≤ entry_word env' x 0 → has (roots_at env' x) r ≡ true → has (holders_at env' r) x ≡ true)
        → note_at env (suc n) ≤ note_at env' (suc n) → note_at env' (suc n) ≤ n → (note_at env' (suc n) ≤ x → entry_word env' x 0 ≡ 0) → Noted env' n
    noted_as_before kept own higher high none =
        let exclusives : roots_at env' n ≡ roots_at env n = entry_roots env env' n (others n (λ p. omega arith)) in
        let scope : roots_at env' (suc n) ≡ roots_at env (suc n) = entry_roots env env' (suc n) (others (suc n) (λ p. omega arith)) in
        still_noted env' (λ y l q. others y q)
        (λ y q. others y q 0 (omega arith) (λ k. omega arith) (λ k. omega arith))
        kept own
        (λ y h. ap (λ (k : Roots). has k y) exclusives ∙ h)
        (λ l h. ap (λ (k : Roots). has k x) exclusives
        ∙ N.exclusives x (leb-true 2 (entry_word env x 0) (sym live-as ∙ le-leb 2 (entry_word env' x 0) l)) (ap (λ (k : ℕ). is_exclusive (chain_of k)) (sym links) ∙ h))
        (λ y q. ap (λ (k : Roots). has k y) scope)
        (ap (λ (k : Roots). has k x) scope ∙ N.scope x ∙ sym live-as)
        higher high none

module _ (env : List Row) (n x : ℕ) (T : TableFor env n) (inside : x < n) where
  -- ---- the number is taken

  module _ (was_free : is_free (environment_of env x) ≡ true) (env₁ env₂ : List Row) (same : length env₂ ≡ length env) (put : Put env x 0 1 env₁) (up : Raised env₁ (suc n) (suc x) env₂) where
    take_off : (y j : ℕ) → j < 9 → (x ≡ y → 0 ≡ j → ⊥) → (suc n ≡ y → 8 ≡ j → ⊥) → entry_word env₂ y j ≡ entry_word env y j
    take_off y j l p q = raised_off env₁ env₂ (suc n) (suc x) up y j l q ∙ put_off env env₁ x 0 1 put y j l p

    take_status : entry_word env₂ x 0 ≡ 1
    take_status = raised_off env₁ env₂ (suc n) (suc x) up x 0 (omega arith) (λ p q. omega arith) ∙ put_at_law env env₁ x 0 1 put (omega arith)

    take_others : (y : ℕ) → (x ≡ y → ⊥) → SameEntry env env₂ y
    take_others y q k l a b = take_off y k (omega arith) (λ p e. q p) (λ p e. omega arith)

    take_links : SameLinks env env₂
    take_links y = links_same env env₂ y (take_off y 1 (omega arith) (λ p q. omega arith) (λ p q. omega arith))

    take_holders : (r : ℕ) → r < n → holders_at env₂ r ≡ holders_at env r
    take_holders r l = holders_same env env₂ r (take_off r 3 (omega arith) (λ p q. omega arith) (λ p q. omega arith)) (take_off r 7 (omega arith) (λ p q. omega arith) (λ p q. omega arith))

    take_used : environment_of env₂ x ≡ used
    unfolding environment_of slot_as
    take_used = ap (λ (s : ℕ). slot_as s (variable_at env₂ x)) take_status

    taken_environment : environment_of env₂ ≡ update (environment_of env) x used
    taken_environment =
        updated env env₂ x used
        (λ y q. slot_same env env₂ y (take_others y q) (λ l. end_same env env₂ (chain_of (links_at env y)) (roots_at env y) (roots_at env y) (λ z. refl) (λ z h. take_links z)))
        take_used

    taken_table : TableFor env₂ n
    taken_table =
        let up-there = raised_there env₁ env₂ (suc n) (suc x) up in
        let before : entry_word env₁ (suc n) 8 ≡ note_at env (suc n) = put_off env env₁ x 0 1 put (suc n) 8 (omega arith) (λ p q. omega arith) in
        let most : note_at env (suc n) ≤ n = T.2.most in
        let was : entry_word env x 0 ≡ 0 = eqb-true (entry_word env x 0) 0 (free_test env x ∙ was_free) in (
          same ∙ T.0,
          T.1,
          noted_as_before env n x T.2 inside env₂ take_others (take_links x) (ap (leb 2) take_status ∙ sym (ap (leb 2) was))
              (λ r y l h. ap (λ (k : Roots). has k y) (take_holders r l) ∙ h)
              (λ r l s h. absurd (omega (arith, take_status)))
              (omega (arith, up-there.0, before))
              (up-there.2 n (omega arith) (omega arith))
              (λ h. absurd (omega (arith, up-there.1))),
        )

    pub number_taken : (environment_of env₂ ≡ update (environment_of env) x used) × TableFor env₂ n × SameLinks env env₂
    number_taken = (taken_environment, taken_table, take_links)
