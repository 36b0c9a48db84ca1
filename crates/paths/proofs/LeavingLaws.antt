-- A block's variables leave scope: all that are in scope and were not before the block. Assumes nothing.
use Prim.Native.Nat.{ℕ, zero, suc, ◌<◌, ◌≤◌}
use native.Mathlib.Omega.{arith}
use native.Mathlib.Decide.{ℕ_discrete}
use mathlib.Core.Path.{◌≡◌, refl, sym, ap, ◌∙◌, fun_ext, subst}
use mathlib.Core.Bool.{Bool, true, false, false≢true, true≢false}
use mathlib.Core.List.{List}
use lib.Dec.{leb, eqb}
use lib.ListN.{length}
use borrow.Author.Tests.{le-leb, lt-leb, leb-true, leb-false, lt-ltb, le-ltb, ne_eqb}
use Rattle.syntax.specs.Result.{pick}
use Rattle.variables.specs.declared.table.Row.{Row}
use Rattle.variables.specs.declared.roots.Roots.{Roots}
use Rattle.statics.specs.Environment.{leave_slot, leave}
use Rattle.variables.specs.Chains.{chain_of, is_exclusive}
use Rattle.variables.specs.Masks.{has}
use Rattle.variables.specs.Table.{entry_word, roots_at, variable_at, slot_as, environment_of, TableFor, SameLinks, InScope, Around}
use Rattle.variables.proofs.EntryLaws.{status_live, live_inside}
use Rattle.variables.proofs.TableLaws.{slot_used, same_slot}
use Rattle.variables.proofs.WordLaws.{put_at_law, put_off, set_off, roots_put, roots_same, holders_same, links_same}
use Rattle.variables.proofs.TableLaws.{Put, PutSet}

-- What lives at a level or around it is in scope.
pub around_in : (env : List Row) (s : Roots) (level : ℕ) → Around env s level → InScope env s
around_in env s level around y h = go (leb 2 (entry_word env y 0)) refl (sym (around y) ∙ h)
  where
    go : (b : Bool) → leb 2 (entry_word env y 0) ≡ b → pick b (leb (entry_word env y 5) level) false ≡ true → 2 ≤ entry_word env y 0
    go true e k = leb-true 2 (entry_word env y 0) e
    go false e k = absurd (false≢true k)

-- Of all that leave those of `left` have still to. No other word changes than their status.
pub record Leaving (env : List Row) (all left : Roots) (env' : List Row) : Type 0 where
  pub within : (y : ℕ) → has left y ≡ true → has all y ≡ true
  pub others : (y j : ℕ) → j < 9 → (0 ≡ j → ⊥) → entry_word env' y j ≡ entry_word env y j
  pub gone : (y : ℕ) → has all y ≡ true → has left y ≡ false → entry_word env' y 0 ≡ 1
  pub stays : (y : ℕ) → has all y ≡ false → entry_word env' y 0 ≡ entry_word env y 0

pub leaving_first : (env : List Row) (all : Roots) → Leaving env all all env
leaving_first env all = record { within = λ y h. h; others = λ y j l n. refl; gone = λ y h k. absurd (true≢false (sym h ∙ k)); stays = λ y h. refl }

pub leaving_next : (env env₁ env₂ : List Row) (all left left' : Roots) (x : ℕ) → Leaving env all left env₁ → has left x ≡ true
    → ((y : ℕ) → has left' y ≡ pick (eqb x y) false (has left y)) → Put env₁ x 0 1 env₂ → Leaving env all left' env₂
leaving_next env env₁ env₂ all left left' x L member out put =
    record {
      within = λ y h. L.within y (was y (eqb x y) (sym (out y) ∙ h));
      others = λ y j l n. put_off env₁ env₂ x 0 1 put y j l (λ p q. n q) ∙ L.others y j l n;
      gone = λ y h k. now_gone y h k (ℕ_discrete x y);
      stays = λ y h. put_off env₁ env₂ x 0 1 put y 0 (omega arith) (λ p q. false≢true (sym h ∙ ap (has all) (sym p) ∙ L.within x member)) ∙ L.stays y h;
    }
  where
    was : (y : ℕ) (b : Bool) → pick b false (has left y) ≡ true → has left y ≡ true
    was y true h = absurd (false≢true h)
    was y false h = h

    now_gone : (y : ℕ) → has all y ≡ true → has left' y ≡ false → Dec (x ≡ y) → entry_word env₂ y 0 ≡ 1
    now_gone y h k (yes q) = subst (λ (z : ℕ). entry_word env₂ z 0 ≡ 1) q (put_at_law env₁ env₂ x 0 1 put (omega arith))
    now_gone y h k (no q) =
        put_off env₁ env₂ x 0 1 put y 0 (omega arith) (λ p e. q p)
        ∙ L.gone y h (sym (out y ∙ ap (λ (b : Bool). pick b false (has left y)) (ne_eqb x y q)) ∙ k)

-- What is not in scope stays what it is.
dead_stays : (env env' : List Row) (y level : ℕ) → entry_word env y 0 < 2 → entry_word env' y 0 ≡ entry_word env y 0 → environment_of env' y ≡ leave_slot level (environment_of env y)
unfolding environment_of slot_as leave_slot
dead_stays env env' y level l e = ap (λ (s : ℕ). slot_as s (variable_at env' y)) e ∙ go (entry_word env y 0) l
  where
    go : (s : ℕ) → s < 2 → slot_as s (variable_at env' y) ≡ leave_slot level (slot_as s (variable_at env y))
    go zero h = refl
    go (suc zero) h = refl
    go (suc (suc s)) h = absurd (omega arith)

-- What leaves is in scope, and was not before the block.
module _ (env : List Row) (n : ℕ) (T : TableFor env n) (scope before all : Roots) (read : scope ≡ roots_at env (suc n))
    (less : (y : ℕ) → has all y ≡ pick (has before y) false (has scope y)) where
  in_scope : (y : ℕ) → has scope y ≡ leb 2 (entry_word env y 0)
  in_scope y = ap (λ (s : Roots). has s y) read ∙ T.2.scope y

  -- It is a variable of the table.
  pub leaving_inside : (left : Roots) (env₁ : List Row) → Leaving env all left env₁ → (x : ℕ) → has left x ≡ true → x < n
  leaving_inside left env₁ L x h = go (has before x) (sym (less x) ∙ L.within x h)
    where
      go : (b : Bool) → pick b false (has scope x) ≡ true → x < n
      go true k = absurd (false≢true k)
      go false k = live_inside env n T x (variable_at env x) (status_live env x (leb-true 2 (entry_word env x 0) (sym (in_scope x) ∙ k)))

  -- All have left, and the set of what is in scope is put.
  module _ (left : Roots) (env₁ env₂ : List Row) (was : InScope env before) (L : Leaving env all left env₁) (none : (y : ℕ) → has left y ≡ false)
      (put : PutSet env₁ (suc n) 2 before env₂) where
    word : (y j : ℕ) → j < 9 → (0 ≡ j → ⊥) → (suc n ≡ y → 2 ≡ j → ⊥) → (suc n ≡ y → 6 ≡ j → ⊥) → entry_word env₂ y j ≡ entry_word env y j
    word y j l z p q = set_off env₁ env₂ (suc n) 2 before put y j l p q ∙ L.others y j l z

    status : (y : ℕ) → entry_word env₂ y 0 ≡ entry_word env₁ y 0
    status y = set_off env₁ env₂ (suc n) 2 before put y 0 (omega arith) (λ p q. omega arith) (λ p q. omega arith)

    -- By whether it was in scope before the block, and whether it is.
    stayed : (y : ℕ) → has before y ≡ true → entry_word env₂ y 0 ≡ entry_word env y 0
    stayed y h = status y ∙ L.stays y (less y ∙ ap (λ (b : Bool). pick b false (has scope y)) h)

    left_out : (y : ℕ) → has before y ≡ false → leb 2 (entry_word env y 0) ≡ true → entry_word env₂ y 0 ≡ 1
    left_out y h k = status y ∙ L.gone y (less y ∙ ap (λ (b : Bool). pick b false (has scope y)) h ∙ in_scope y ∙ k) (none y)

    not_in : (y : ℕ) → leb 2 (entry_word env y 0) ≡ false → entry_word env₂ y 0 ≡ entry_word env y 0
    not_in y h = status y ∙ L.stays y (less y ∙ go (has before y))
      where
        go : (b : Bool) → pick b false (has scope y) ≡ false
        go true = refl
        go false = in_scope y ∙ h

    -- Who is in scope now was in scope before the block.
    still_in : (y : ℕ) → 2 ≤ entry_word env₂ y 0 → has before y ≡ true
    still_in y h = go (has before y) (leb 2 (entry_word env y 0)) refl refl
      where
        go : (b c : Bool) → has before y ≡ b → leb 2 (entry_word env y 0) ≡ c → b ≡ true
        go true c e k = refl
        go false true e k = absurd (omega (arith, left_out y e k))
        go false false e k = absurd (omega (arith, not_in y k, leb-false 2 (entry_word env y 0) k))

    left_links : SameLinks env env₂
    left_links y = links_same env env₂ y (word y 1 (omega arith) (λ q. omega arith) (λ p q. omega arith) (λ p q. omega arith))

    roots_stay : (y : ℕ) → (suc n ≡ y → ⊥) → roots_at env₂ y ≡ roots_at env y
    roots_stay y h = roots_same env env₂ y (word y 2 (omega arith) (λ q. omega arith) (λ p q. h p) (λ p q. h p)) (word y 6 (omega arith) (λ q. omega arith) (λ p q. h p) (λ p q. h p))

    now_in : (y : ℕ) → has (roots_at env₂ (suc n)) y ≡ leb 2 (entry_word env₂ y 0)
    now_in y = ap (λ (s : Roots). has s y) (roots_put env₁ env₂ (suc n) before put) ∙ go (has before y) (leb 2 (entry_word env y 0)) refl refl
      where
        go : (b c : Bool) → has before y ≡ b → leb 2 (entry_word env y 0) ≡ c → b ≡ leb 2 (entry_word env₂ y 0)
        go true c e k = sym (le-leb 2 (entry_word env₂ y 0) (omega (arith, stayed y e, was y e)))
        go false true e k = sym (lt-leb 2 (entry_word env₂ y 0) (omega (arith, left_out y e k)))
        go false false e k = sym (lt-leb 2 (entry_word env₂ y 0) (omega (arith, not_in y k, leb-false 2 (entry_word env y 0) k)))

    left_table : length env₂ ≡ length env → TableFor env₂ n
    left_table same = (
      same ∙ T.0,
      T.1,
      record {
        held = λ y r a b s h.
            let holders = holders_same env env₂ r (word r 3 (omega arith) (λ q. omega arith) (λ p q. omega arith) (λ p q. omega arith)) (word r 7 (omega arith) (λ q. omega arith) (λ p q. omega arith) (λ p q. omega arith)) in
            ap (λ (k : Roots). has k y) holders
            ∙ T.2.held y r a b (was y (still_in y s)) (ap (λ (k : Roots). has k r) (sym (roots_stay y (λ e. omega arith))) ∙ h);
        exclusives = λ y s h.
            ap (λ (k : Roots). has k y) (roots_stay n (λ e. omega arith))
            ∙ T.2.exclusives y (was y (still_in y s)) (ap (λ (l : ℕ). is_exclusive (chain_of l)) (sym (left_links y)) ∙ h);
        scope = now_in;
        most = (omega (arith, note, T.2.most));
        untaken = λ x h. let z = T.2.untaken x (omega (arith, note)) in not_in x (lt-leb 2 (entry_word env x 0) (omega arith)) ∙ z;
      },
    )
      where
        note : entry_word env₂ (suc n) 8 ≡ entry_word env (suc n) 8
        note = word (suc n) 8 (omega arith) (λ q. omega arith) (λ p q. omega arith) (λ p q. omega arith)

    -- Where the variables in scope before the block are those of the level or around it, the others are deeper.
    left_environment : (level : ℕ) → Around env before level → environment_of env₂ ≡ leave level (environment_of env)
    unfolding leave leave_slot
    left_environment level around = fun_ext λ y. go y (leb 2 (entry_word env y 0)) (has before y) refl refl (sym (around y))
      where
        at_live : (y : ℕ) → 2 ≤ entry_word env y 0 → (b : Bool) → has before y ≡ b → leb (entry_word env y 5) level ≡ b → environment_of env₂ y ≡ leave_slot level (environment_of env y)
        at_live y l true e k =
            let i = live_inside env n T y (variable_at env y) (status_live env y l) in
            let moved = word y 4 (omega arith) (λ q. omega arith) (λ p q. omega arith) (λ p q. omega arith) in
            let deep = word y 5 (omega arith) (λ q. omega arith) (λ p q. omega arith) (λ p q. omega arith) in
            same_slot env env₂ left_links y y (stayed y e) (left_links y) moved (roots_stay y (λ q. omega arith)) deep
            ∙ rw (status_live env y l, le-ltb level (entry_word env y 5) (leb-true (entry_word env y 5) level k)) refl
        at_live y l false e k =
            slot_used env₂ y (left_out y e (le-leb 2 (entry_word env y 0) l))
            ∙ rw (status_live env y l, lt-ltb level (entry_word env y 5) (leb-false (entry_word env y 5) level k)) refl

        go : (y : ℕ) (a b : Bool) → leb 2 (entry_word env y 0) ≡ a → has before y ≡ b → pick a (leb (entry_word env y 5) level) false ≡ b → environment_of env₂ y ≡ leave_slot level (environment_of env y)
        go y true b e f k = at_live y (leb-true 2 (entry_word env y 0) e) b f k
        go y false b e f k = dead_stays env env₂ y level (leb-false 2 (entry_word env y 0) e) (not_in y e)

    pub all_left : length env₂ ≡ length env → ((level : ℕ) → Around env before level → environment_of env₂ ≡ leave level (environment_of env)) × TableFor env₂ n × SameLinks env env₂
    all_left same = (left_environment, left_table same, left_links)
