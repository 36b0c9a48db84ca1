-- The terms without an inner term, in their rows: what each kind's row says, and what its run is then.
use Prim.Native.Nat.{ℕ, zero, suc, ◌+◌, ◌-◌, ◌<◌}
use native.Mathlib.Omega.{arith}
use mathlib.Core.Path.{◌≡◌, refl, sym, ap, subst, ◌∙◌}
use mathlib.Core.Logic.{◌⊎◌, ⊎_elim}
use mathlib.Core.Bool.{Bool, true, false}
use mathlib.Core.Option.{Option, none, some}
use mathlib.Core.List.{List}
use lib.Dec.{ltb, eqb}
use lib.IntN.{ℤ}
use borrow.Author.Tests.{ltb-true}
use Rattle.std.specs.Prelude.{Result, Ok}
use Rattle.syntax.specs.Limits.{Limits}
use Rattle.syntax.specs.Parts.{IsKind}
use Rattle.syntax.specs.declared.kinds.Kind as code
use Rattle.syntax.specs.declared.kinds.Kind.TheVariants as kind
use Rattle.syntax.specs.KindNumbers.{number_in}
use Rattle.syntax.specs.declared.refusals.Reason.{Reason}
use Rattle.store.specs.declared.store.Value.{Value}
use Rattle.store.specs.declared.store.Value.TheVariants as value
use Rattle.syntax.specs.Script.{Term, reading, copy, move, borrow_shared, borrow_exclusive, below, block, sum}
use Rattle.syntax.specs.Kinds.{Kind, k_number, k_reading, k_copy, k_move, k_shared, k_exclusive, k_box, k_let, k_assign, k_below, k_block, k_choice, k_sum, newest, byte_of, kind_of}
use Rattle.syntax.specs.Reader.{branch}
use Rattle.syntax.specs.RowParts.{field_at}
use Rattle.syntax.specs.RowTrees.{place_at, RowTree, IsTree, only_if, around, several_at, terms_at, block_at, then_block, choice_of, kind_at, tree_at}
use Rattle.syntax.proofs.KindBytes.{has, added_most, found}
use Rattle.syntax.proofs.RowTreeLaws.{only_if_law, only_in, only_is, around_inner, rest_first, tree_kind}
use Rattle.dynamics.specs.Signed.{compared, held_sum}
use Rattle.dynamics.specs.Store.{State}
use mir.Val.{bool_byte}
use Rattle.syntax.specs.Result.{pick}
use Rattle.dynamics.specs.Run.{run_borrow, run_pair, run}
use Rattle.dynamics.specs.Readings.{bits_of}
use Rattle.store.specs.Words.{Tidy}
use Rattle.store.specs.StoreParts.{state_at}
use Rattle.term_runner.specs.LeafParts.{Copied, Moved, Borrowed, Paired, pair_of, ran_on, run_on, leaf_at, LeafRan}
use Rattle.term_runner.specs.Parts.{end_of}

pub kind_byte : (k : Kind) → IsKind (byte_of k)
unfolding byte_of
kind_byte k_number = omega arith
kind_byte k_reading = omega arith
kind_byte k_copy = omega arith
kind_byte k_move = omega arith
kind_byte k_shared = omega arith
kind_byte k_exclusive = omega arith
kind_byte k_box = omega arith
kind_byte k_let = omega arith
kind_byte k_assign = omega arith
kind_byte k_below = omega arith
kind_byte k_block = omega arith
kind_byte k_choice = omega arith
kind_byte k_sum = omega arith

-- What the kinds with two places make of two numbers.
pub pair_sum : (k : code.Kind) → k ≡ kind.Sum → pair_of (number_in k) ≡ held_sum
unfolding pair_of
pair_sum k e = rw e

pub pair_below : (k : code.Kind) → (k ≡ kind.Sum → ⊥) → pair_of (number_in k) ≡ compared
unfolding pair_of
pair_below kind.Number n = refl
pair_below kind.Reading n = refl
pair_below kind.Copy n = refl
pair_below kind.Move n = refl
pair_below kind.Shared n = refl
pair_below kind.Exclusive n = refl
pair_below kind.Box n = refl
pair_below kind.Let n = refl
pair_below kind.Assign n = refl
pair_below kind.Below n = refl
pair_below kind.Block n = refl
pair_below kind.Choice n = refl
pair_below kind.Sum n = absurd (n refl)

pub as_byte : (b : Bool) → bool_byte b ≡ pick b 1 0
as_byte true = refl
as_byte false = refl

-- No block stands where no term does.
no_block : (i n j : ℕ) → IsTree (around (block i) (terms_at (λ k. none) n j)) → ⊥
unfolding terms_at
no_block i zero j h = h
no_block i (suc n) j h = rest_first (λ k. none) (suc n) j (omega arith) (around_inner (block i) (several_at (λ k. none) n j) h)

-- No choice either: its first block is due in the next row.
no_choice : (set : Limits) (rows : List ℕ) (i : ℕ) → IsTree (kind_at (some k_choice) set.variables (λ j. none) rows i) → ⊥
unfolding kind_at
no_choice set rows i h = go (ltb (field_at rows i 1) set.variables) (eqb (field_at rows (i + 1) 0) 11) h
  where
    go : (a b : Bool) → IsTree (only_if a (around (choice_of i (place_at rows i 1)) (then_block (only_if b (around branch none)) (block_at (λ j. none) rows)))) → ⊥
    go true true h = h
    go true false h = h
    go false b h = h

module _ (set : Limits) where
  -- Such a kind asks nothing of what is inside.
  pub leaf_is : (l : ℕ) (rows : List ℕ) (i k : ℕ) → IsTree (tree_at set.variables l rows i) → k ≡ field_at rows i 0 → (k ≡ 7 → ⊥) × (k ≡ 8 → ⊥) × (k ≡ 9 → ⊥) → (k ≡ 11 → ⊥) → (k ≡ 12 → ⊥) → tree_at set.variables l rows i ≡ leaf_at set rows i
  unfolding leaf_at kind_at byte_of
  leaf_is l rows i k good ek n d c = tree_kind set.variables l rows i (kind_of newest (field_at rows i 0)) good refl ∙ go (kind_of newest (field_at rows i 0)) (ap (kind_of newest) ek)
    where
      go : (o : Option Kind) → kind_of newest k ≡ o → kind_at o set.variables (tree_at set.variables (l - 1) rows) rows i ≡ kind_at o set.variables (λ j. none) rows i
      go none h = refl
      go (some k_number) h = refl
      go (some k_reading) h = refl
      go (some k_copy) h = refl
      go (some k_move) h = refl
      go (some k_shared) h = refl
      go (some k_exclusive) h = refl
      go (some k_box) h = absurd (n.0 (sym (found newest k k_box h)))
      go (some k_let) h = absurd (n.1 (sym (found newest k k_let h)))
      go (some k_assign) h = absurd (n.2 (sym (found newest k k_assign h)))
      go (some k_below) h = refl
      go (some k_sum) h = refl
      go (some k_block) h = absurd (d (sym (found newest k k_block h)))
      go (some k_choice) h = absurd (c (sym (found newest k k_choice h)))

  -- Each leaf is one row.
  pub leaf_end : (rows : List ℕ) (i : ℕ) → IsTree (leaf_at set rows i) → end_of (leaf_at set rows i) ≡ i + 1
  unfolding leaf_at kind_at end_of
  leaf_end rows i good = go (kind_of newest (field_at rows i 0)) good
    where
      one : (b : Bool) (t : Term) → IsTree (only_if b (some (t, i + 1))) → end_of (only_if b (some (t, i + 1))) ≡ i + 1
      one b t h = ap end_of (only_is b (some (t, i + 1)) h)

      two : (t : Term) → IsTree (only_if (ltb (field_at rows i 1) set.variables) (only_if (ltb (field_at rows i 3) set.variables) (some (t, i + 1))))
          → end_of (only_if (ltb (field_at rows i 1) set.variables) (only_if (ltb (field_at rows i 3) set.variables) (some (t, i + 1)))) ≡ i + 1
      two t h = rw (only_if_law (ltb (field_at rows i 1) set.variables) _ h) (one (ltb (field_at rows i 3) set.variables) t (only_in (ltb (field_at rows i 1) set.variables) _ h))

      go : (o : Option Kind) → IsTree (kind_at o set.variables (λ j. none) rows i) → end_of (kind_at o set.variables (λ j. none) rows i) ≡ i + 1
      go none h = absurd h
      go (some k_number) h = refl
      go (some k_reading) h = one (ltb (field_at rows i 1) 8) _ h
      go (some k_copy) h = one (ltb (field_at rows i 1) set.variables) _ h
      go (some k_move) h = one (ltb (field_at rows i 1) set.variables) _ h
      go (some k_shared) h = one (ltb (field_at rows i 1) set.variables) _ h
      go (some k_exclusive) h = one (ltb (field_at rows i 1) set.variables) _ h
      go (some k_box) h = absurd h
      go (some k_let) h = absurd (only_in (ltb (field_at rows i 1) set.variables) none h)
      go (some k_assign) h = absurd (only_in (ltb (field_at rows i 1) set.variables) none h)
      go (some k_below) h = two _ h
      go (some k_sum) h = two _ h
      go (some k_block) h = absurd (no_block i (field_at rows i 1) (i + 1) h)
      go (some k_choice) h = absurd (no_choice set rows i h)

  module _ (rows : List ℕ) (i : ℕ) (good : IsTree (leaf_at set rows i)) where
    by_kind : (k : Kind) → field_at rows i 0 ≡ byte_of k → leaf_at set rows i ≡ kind_at (some k) set.variables (λ j. none) rows i
    unfolding leaf_at
    by_kind k e = ap (λ (o : Option Kind). kind_at o set.variables (λ j. none) rows i) (ap (kind_of newest) e ∙ has newest k (added_most k))

    -- A field that the row is tested for is below its bound.
    tested : (x n : ℕ) (d : RowTree Term) → leaf_at set rows i ≡ only_if (ltb x n) d → (x < n) × (leaf_at set rows i ≡ d)
    tested x n d e =
        let t : IsTree (only_if (ltb x n) d) = rw e at good in
        (ltb-true x n (only_if_law (ltb x n) d t), e ∙ only_is (ltb x n) d t)

    pub reading_leaf : field_at rows i 0 ≡ 2 → (field_at rows i 1 < 8) × (leaf_at set rows i ≡ some (reading i (field_at rows i 1), i + 1))
    unfolding kind_at byte_of
    reading_leaf e = tested (field_at rows i 1) 8 _ (by_kind k_reading e)

    pub copy_leaf : field_at rows i 0 ≡ 3 → (field_at rows i 1 < set.variables) × (leaf_at set rows i ≡ some (copy i (place_at rows i 1), i + 1))
    unfolding kind_at byte_of
    copy_leaf e = tested (field_at rows i 1) set.variables _ (by_kind k_copy e)

    pub move_leaf : field_at rows i 0 ≡ 4 → (field_at rows i 1 < set.variables) × (leaf_at set rows i ≡ some (move i (place_at rows i 1), i + 1))
    unfolding kind_at byte_of
    move_leaf e = tested (field_at rows i 1) set.variables _ (by_kind k_move e)

    -- The kinds with two places.
    Two : Term → Type 0
    Two t = (field_at rows i 1 < set.variables) × (field_at rows i 3 < set.variables) × (leaf_at set rows i ≡ some (t, i + 1))

    two_tested : (t : Term) → leaf_at set rows i ≡ only_if (ltb (field_at rows i 1) set.variables) (only_if (ltb (field_at rows i 3) set.variables) (some (t, i + 1))) → Two t
    unfolding Two
    two_tested t e =
        let first = tested (field_at rows i 1) set.variables _ e in
        let second = tested (field_at rows i 3) set.variables _ first.1 in
        (first.0, second.0, second.1)

    below_leaf : field_at rows i 0 ≡ 10 → Two (below i (place_at rows i 1) (place_at rows i 3))
    unfolding kind_at byte_of
    below_leaf e = two_tested _ (by_kind k_below e)

    sum_leaf : field_at rows i 0 ≡ 13 → Two (sum i (place_at rows i 1) (place_at rows i 3))
    unfolding kind_at byte_of
    sum_leaf e = two_tested _ (by_kind k_sum e)

    shared_leaf : field_at rows i 0 ≡ 5 → (field_at rows i 1 < set.variables) × (leaf_at set rows i ≡ some (borrow_shared i (place_at rows i 1), i + 1))
    unfolding kind_at byte_of
    shared_leaf e = tested (field_at rows i 1) set.variables _ (by_kind k_shared e)

    exclusive_leaf : field_at rows i 0 ≡ 6 → (field_at rows i 1 < set.variables) × (leaf_at set rows i ≡ some (borrow_exclusive i (place_at rows i 1), i + 1))
    unfolding kind_at byte_of
    exclusive_leaf e = tested (field_at rows i 1) set.variables _ (by_kind k_exclusive e)

    -- A kind is known where a term stands, and it is none of the kinds with inner terms.
    pub leaf_known : (IsKind (field_at rows i 0) → ⊥) → ⊥
    unfolding leaf_at kind_at
    leaf_known n = go (kind_of newest (field_at rows i 0)) refl good
      where
        go : (o : Option Kind) → kind_of newest (field_at rows i 0) ≡ o → IsTree (kind_at o set.variables (λ j. none) rows i) → ⊥
        go none h t = t
        go (some k) h t = n (subst IsKind (found newest (field_at rows i 0) k h) (kind_byte k))

    module _ (k : code.Kind) (ek : number_in k ≡ field_at rows i 0) where
      number_is : (j : code.Kind) → k ≡ j → field_at rows i 0 ≡ number_in j
      number_is j e = sym ek ∙ ap number_in e

      pub leaf_only : (k ≡ kind.Box) ⊎ ((k ≡ kind.Let) ⊎ ((k ≡ kind.Assign) ⊎ ((k ≡ kind.Block) ⊎ (k ≡ kind.Choice)))) → ⊥
      unfolding kind_at byte_of
      leaf_only h =
          ⊎_elim (λ e. subst IsTree (by_kind k_box (number_is kind.Box e)) good)
          (⊎_elim (λ e. only_in (ltb (field_at rows i 1) set.variables) none (subst IsTree (by_kind k_let (number_is kind.Let e)) good))
          (⊎_elim (λ e. only_in (ltb (field_at rows i 1) set.variables) none (subst IsTree (by_kind k_assign (number_is kind.Assign e)) good))
          (⊎_elim (λ e. no_block i (field_at rows i 1) (i + 1) (subst IsTree (by_kind k_block (number_is kind.Block e)) good))
          (λ e. no_choice set rows i (subst IsTree (by_kind k_choice (number_is kind.Choice e)) good))))) h

      pub pair_roots : (k ≡ kind.Below) ⊎ (k ≡ kind.Sum) → (field_at rows i 1 < set.variables) × (field_at rows i 3 < set.variables)
      unfolding Two
      pair_roots h = ⊎_elim (λ e. let b = below_leaf (number_is kind.Below e) in (b.0, b.1)) (λ e. let b = sum_leaf (number_is kind.Sum e) in (b.0, b.1)) h

      pub borrow_leaf : (k ≡ kind.Shared) ⊎ (k ≡ kind.Exclusive) → (field_at rows i 1 < set.variables) × ((readings : List ℤ) (s : State) → run_on readings (leaf_at set rows i) s ≡ run_borrow s i (place_at rows i 1))
      unfolding ran_on run
      borrow_leaf h = ⊎_elim
          (λ e. let b = shared_leaf (number_is kind.Shared e) in (b.0, λ readings s. rw b.1))
          (λ e. let b = exclusive_leaf (number_is kind.Exclusive e) in (b.0, λ readings s. rw b.1)) h

    -- ---- the run of each

    module _ (readings : List ℤ) (w : List ℕ) where
      pub leaf_number_law : field_at rows i 0 ≡ 1 → Tidy set w → (n : ℕ) → n ≡ field_at rows i 1 → LeafRan set rows i readings w w (Ok (value.Number n))
      unfolding kind_at byte_of ran_on run
      leaf_number_law e t n q = record { tidy = t; sound = tt; is = λ taken opened. rw q (sym (rw (by_kind k_number e))) }

      pub leaf_reading_law : field_at rows i 0 ≡ 2 → Tidy set w → (x n : ℕ) → x ≡ field_at rows i 1 → n ≡ bits_of readings x → LeafRan set rows i readings w w (Ok (value.Number n))
      unfolding ran_on run
      leaf_reading_law e t x n p q = record { tidy = t; sound = tt; is = λ taken opened. rw (q, p) (sym (rw (reading_leaf e).1)) }

      module _ (root follows : ℕ) (p : (root ≡ field_at rows i 1) × (follows ≡ field_at rows i 2)) where
        pub leaf_copy_law : field_at rows i 0 ≡ 3 → Tidy set w → (r : Result Value Reason) → Copied set w root follows r → LeafRan set rows i readings w w r
        unfolding ran_on run
        leaf_copy_law e t r c = record { tidy = t; sound = c.sound; is = λ taken opened. c.is i taken opened ∙ rw (p.0, p.1) (sym (rw (copy_leaf e).1)) }

        pub leaf_move_law : field_at rows i 0 ≡ 4 → (w' : List ℕ) (r : Result Value Reason) → Moved set w root follows w' r → LeafRan set rows i readings w w' r
        unfolding ran_on run
        leaf_move_law e w' r c = record { tidy = c.tidy; sound = c.sound; is = λ taken opened. c.is i taken opened ∙ rw (p.0, p.1) (sym (rw (move_leaf e).1)) }

        -- Of the kinds with two places: t is the row's term, and f what its run makes of the numbers.
        module _ (other others : ℕ) (q : (other ≡ field_at rows i 3) × (others ≡ field_at rows i 4)) where
          leaf_pair : (t : Term) (f : ℕ → ℕ → ℕ) → leaf_at set rows i ≡ some (t, i + 1) → ((s : State) → run (bits_of readings) t s ≡ run_pair f s i (place_at rows i 1) (place_at rows i 3)) → Tidy set w → (r : Result Value Reason) → Paired set f w root follows other others r → LeafRan set rows i readings w w r
          unfolding ran_on
          leaf_pair t f e d h r c = record {
            tidy = h;
            sound = c.sound;
            is = λ taken opened. c.is i taken opened ∙ rw (p.0, p.1, q.0, q.1) (sym (rw e (d (state_at set w taken opened))));
          }

          pub leaf_two : (k : code.Kind) → number_in k ≡ field_at rows i 0 → (k ≡ kind.Below) ⊎ (k ≡ kind.Sum) → Tidy set w → (r : Result Value Reason) → Paired set (pair_of (number_in k)) w root follows other others r → LeafRan set rows i readings w w r
          unfolding run pair_of Two
          leaf_two k ek h = ⊎_elim (λ e. leaf_pair _ (pair_of (number_in k)) (below_leaf (number_is k ek kind.Below e)).2 (λ s. rw e)) (λ e. leaf_pair _ (pair_of (number_in k)) (sum_leaf (number_is k ek kind.Sum e)).2 (λ s. rw e)) h

        pub leaf_borrow : (k : code.Kind) → number_in k ≡ field_at rows i 0 → (k ≡ kind.Shared) ⊎ (k ≡ kind.Exclusive) → Tidy set w → (r : Result Value Reason) → Borrowed set w root follows r → LeafRan set rows i readings w w r
        leaf_borrow k ek h t r x = record {
          tidy = t;
          sound = x.sound;
          is = λ taken opened. x.is i taken opened ∙ rw (p.0, p.1) (sym ((borrow_leaf k ek h).1 readings (state_at set w taken opened)));
        }
