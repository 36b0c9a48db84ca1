-- Cells are taken in order in every state of a run, checked or not: so dropping has its law in all of them.
use Prim.Native.Nat.{ℕ, zero, suc, ◌≤◌}
use native.Mathlib.Omega.{arith}
use mathlib.Core.Path.{◌≡◌, refl, ◌∙◌}
use mathlib.Core.Bool.{Bool, true, false}
use mathlib.Core.List.{List}
use lib.Dec.{eqb}
use Rattle.syntax.specs.Result.{need, pick}
use Rattle.syntax.specs.Script.{Place, Term, number, reading, copy, move, borrow_shared, borrow_exclusive, box, declare, assign, below, block, choice, sum, Terms, last, more}
use Rattle.dynamics.specs.Values.{Location, variable, cell, Value, empty, num, owner, reference, Row, closed, given_back, open_with}
use Rattle.dynamics.specs.Store.{Store, put, is_open, value_in, State, with_store, Ran}
use Rattle.dynamics.specs.Locate.{followed, locate_from, locate, filled, number_in}
use Rattle.dynamics.specs.Drop.{InOrder}
use Rattle.dynamics.specs.Signed.{compared, held_sum}
use Rattle.dynamics.specs.Run.{Outcome, run_copy, run_move, run_borrow, run_number, run_pair, run_let, run_assign, run_box, run_block_end, entered, begun, run, runs, run_script}
use Rattle.dynamics.proofs.StoreLaws.{put_other}
use Rattle.dynamics.proofs.DropLaws.{open_taken, without_in_order}
use Rattle.dynamics.proofs.Kept.{Keeps, ends, faults, keeps_then, Lasting, drop_keeps, close_keeps}

cell≢variable : {c x : ℕ} → cell c ≡ variable x → ⊥
cell≢variable e = let z : ◌≡◌ {A = ℕ} 0 1 = cc in omega arith

-- ---- rows written

pub variable_kept : (s : State) (x : ℕ) (r : Row) → InOrder s → InOrder (with_store s (put s.store (variable x) r))
variable_kept s x r h c l = put_other s.store (variable x) r (cell c) cell≢variable ∙ h c l

-- An open row may be written: if it is a cell's, the cell is taken.
open_kept : (s : State) (l : Location) (v : Value) (r : Row) → s.store l ≡ open_with v → InOrder s → InOrder (with_store s (put s.store l r))
open_kept s (variable x) v r e h c l = variable_kept s x r h c l
open_kept s (cell d) v r e h c l =
    let k = open_taken s h d v e in
    put_other s.store (cell d) r (cell c) (λ q. let z : c ≡ d = cc in omega arith) ∙ h c l

pub lasting : Lasting InOrder
lasting = record { back = λ s c v e h. without_in_order s h c v e; close = λ s x h. variable_kept s x closed h }

-- ---- locating and reading, whose faults leave the state as it is

module _ {P : State → Type 0} (s : State) (i : ℕ) (h : P s) where
  need_keeps : (b : Bool) (n : ℕ) → Keeps P (λ u. b ≡ true) (need b (record { number = n; term = i; state = s }))
  unfolding need
  need_keeps true n = ends tt refl
  need_keeps false n = faults _ h

  followed_keeps : (r : Row) → Keeps P (λ l. Unit {0}) (followed s i r)
  unfolding followed
  followed_keeps closed = faults _ h
  followed_keeps given_back = faults _ h
  followed_keeps (open_with empty) = faults _ h
  followed_keeps (open_with (num n)) = faults _ h
  followed_keeps (open_with (owner c)) = ends _ tt
  followed_keeps (open_with (reference l)) = ends _ tt

  from_keeps : (r : ℕ) (l : Location) → Keeps P (λ l. Unit {0}) (locate_from s i l r)
  unfolding locate_from
  from_keeps zero l = keeps_then _ (need_keeps (is_open (s.store l)) 60) (λ u e. ends l tt)
  from_keeps (suc r) l = keeps_then _ (followed_keeps (s.store l)) (λ m e. from_keeps r m)

  locate_keeps : (p : Place) → Keeps P (λ l. Unit {0}) (locate s i p)
  unfolding locate
  locate_keeps p = from_keeps p.follows (variable p.root)

  filled_keeps : (r : Row) → Keeps P (λ v. r ≡ open_with v) (filled s i r)
  unfolding filled
  filled_keeps closed = faults _ h
  filled_keeps given_back = faults _ h
  filled_keeps (open_with empty) = faults _ h
  filled_keeps (open_with (num n)) = ends _ refl
  filled_keeps (open_with (owner c)) = ends _ refl
  filled_keeps (open_with (reference l)) = ends _ refl

  in_keeps : (v : Value) → Keeps P (λ n. Unit {0}) (number_in s i v)
  unfolding number_in
  in_keeps empty = faults _ h
  in_keeps (num n) = ends n tt
  in_keeps (owner c) = faults _ h
  in_keeps (reference l) = faults _ h

  number_keeps : (p : Place) → Keeps P (λ n. Unit {0}) (run_number s i p)
  unfolding run_number
  number_keeps p = keeps_then _ (locate_keeps p) (λ l u. keeps_then _ (filled_keeps (s.store l)) (λ v e. in_keeps v))

-- ---- terms

-- An assign's write, if the row is still open.
write_kept : (s : State) (l : Location) (v : Value) (r : Row) → s.store l ≡ r → InOrder s
    → InOrder (pick (is_open (s.store l)) (with_store s (put s.store l (open_with v))) s)
unfolding is_open
write_kept s l v closed e h = rw e h
write_kept s l v given_back e h = rw e h
write_kept s l v (open_with u) e h = rw e (open_kept s l u (open_with v) e h)

-- What is kept between terms.
abbrev pub Ordered : Ran Outcome → Type 0
Ordered r = Keeps InOrder (λ (o : Outcome). InOrder o.0) r

module _ (s : State) (i : ℕ) (h : InOrder s) where
  copy_ordered : (p : Place) → Ordered (run_copy s i p)
  unfolding run_copy
  copy_ordered p = keeps_then _ (locate_keeps s i h p) (λ l u. keeps_then _ (filled_keeps s i h (s.store l)) (λ v e. ends (s, v) h))

  move_ordered : (p : Place) → Ordered (run_move s i p)
  unfolding run_move
  move_ordered p =
      keeps_then _ (locate_keeps s i h p) (λ l u. keeps_then _ (filled_keeps s i h (s.store l)) (λ v e. ends _ (open_kept s l v (open_with empty) e h)))

  borrow_ordered : (p : Place) → Ordered (run_borrow s i p)
  unfolding run_borrow
  borrow_ordered p = keeps_then _ (locate_keeps s i h p) (λ l u. ends _ h)

  pair_ordered : (f : ℕ → ℕ → ℕ) (p q : Place) → Ordered (run_pair f s i p q)
  unfolding run_pair
  pair_ordered f p q = keeps_then _ (number_keeps s i h p) (λ a u. keeps_then _ (number_keeps s i h q) (λ b w. ends _ h))

  box_ordered : (v : Value) → Ordered (run_box s v)
  unfolding run_box
  box_ordered v = ends _ kept
    where
      kept : (c : ℕ) → suc s.taken ≤ c → put s.store (cell s.taken) (open_with v) (cell c) ≡ closed
      kept c l = put_other s.store (cell s.taken) (open_with v) (cell c) (λ q. let z : c ≡ s.taken = cc in omega arith) ∙ h c (omega arith)

  let_ordered : (x : ℕ) (v : Value) → Ordered (run_let s i x v)
  unfolding run_let
  let_ordered x v = keeps_then _ (need_keeps s i h _ 62) (λ u e. ends _ (variable_kept s x (open_with v) h))

  assign_ordered : (p : Place) (v : Value) → Ordered (run_assign s i p v)
  unfolding run_assign
  assign_ordered p v = keeps_then _ (locate_keeps s i h p) (λ l u. keeps_then _ (drop_keeps lasting i s (value_in (s.store l)) h) (λ s' k. ends _ (write_kept s' l v (s'.store l) refl k)))

  end_ordered : (around : List ℕ) (v : Value) → Ordered (run_block_end i around (s, v))
  unfolding run_block_end
  end_ordered around v = keeps_then _ (close_keeps lasting i s.opened s h) (λ s' k. ends _ k)

one_ordered : (c : Bool) (a b : Ran Outcome) → Ordered a → Ordered b → Ordered (pick c b a)
one_ordered true a b h k = k
one_ordered false a b h k = h

module _ (readings : ℕ → ℕ) where
  mutual
    unfolding run

    pub run_ordered : (t : Term) (s : State) → InOrder s → Ordered (run readings t s)
    run_ordered (number i n) s h = ends _ h
    run_ordered (reading i n) s h = ends _ h
    run_ordered (copy i p) s h = copy_ordered s i h p
    run_ordered (move i p) s h = move_ordered s i h p
    run_ordered (borrow_shared i p) s h = borrow_ordered s i h p
    run_ordered (borrow_exclusive i p) s h = borrow_ordered s i h p
    run_ordered (box i t) s h = keeps_then _ (run_ordered t s h) (λ o k. box_ordered o.0 i k o.1)
    run_ordered (declare i x t) s h = keeps_then _ (run_ordered t s h) (λ o k. let_ordered o.0 i k x o.1)
    run_ordered (assign i p t) s h = keeps_then _ (run_ordered t s h) (λ o k. assign_ordered o.0 i k p o.1)
    run_ordered (below i p q) s h = pair_ordered s i h compared p q
    run_ordered (sum i p q) s h = pair_ordered s i h held_sum p q
    run_ordered (block i ts) s h = keeps_then _ (runs_ordered ts i (entered s) h) (λ o k. end_ordered o.0 i k s.opened o.1)
    run_ordered (choice i p j us k vs) s h =
        keeps_then _ (number_keeps s i h p) (λ n u. one_ordered (eqb n 0) _ _
        (keeps_then _ (runs_ordered us j (entered s) h) (λ o m. end_ordered o.0 j m s.opened o.1))
        (keeps_then _ (runs_ordered vs k (entered s) h) (λ o m. end_ordered o.0 k m s.opened o.1)))

    pub runs_ordered : (ts : Terms) (i : ℕ) (s : State) → InOrder s → Ordered (runs readings ts i s)
    runs_ordered (last t) i s h = run_ordered t s h
    runs_ordered (more t ts) i s h =
        keeps_then _ (run_ordered t s h) (λ o k. keeps_then _ (drop_keeps lasting i o.0 o.1 k) (λ s' l. runs_ordered ts i s' l))

  -- A whole run, from any earlier store: its last state, or that of its fault.
  pub script_ordered : (t : Term) (earlier : Store) → Keeps InOrder (λ (r : State × ℕ). InOrder r.0) (run_script readings t earlier)
  unfolding run_script
  script_ordered t earlier =
      keeps_then _ (run_ordered t (begun earlier) (λ c l. refl)) (λ o k. keeps_then _ (in_keeps o.0 0 k o.1) (λ n u. ends _ k))
