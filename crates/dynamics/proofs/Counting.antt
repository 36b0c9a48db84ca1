-- The cells taken are the box terms that finished.
use Prim.Native.Nat.{ℕ, ◌+◌, ◌≤◌}
use native.Mathlib.Omega.{arith}
use mathlib.Core.Path.{◌≡◌, refl, sym, ap, ◌∙◌}
use mathlib.Core.Bool.{Bool, true, false}
use mathlib.Core.List.{List}
use lib.Dec.{eqb}
use Rattle.syntax.specs.Result.{Result, ok, err, ◌>>=◌, need, pick}
use Rattle.syntax.specs.Script.{Place, Term, number, reading, copy, move, borrow_shared, borrow_exclusive, box, declare, assign, below, block, choice, sum, Terms, last, more}
use Rattle.syntax.specs.Measures.{boxes_in, boxes_all}
use Rattle.dynamics.specs.Values.{Location, Value, empty, open_with}
use Rattle.dynamics.specs.Store.{put, is_open, value_in, State, with_store, Ran}
use Rattle.dynamics.specs.Locate.{locate, filled}
use Rattle.dynamics.specs.Drop.{drop_value, close_all}
use Rattle.dynamics.specs.Signed.{compared, held_sum}
use Rattle.dynamics.specs.Run.{Outcome, run_copy, run_move, run_borrow, run_number, run_pair, run_let, run_assign, run_box, run_block_end, entered, run, runs}
use Rattle.dynamics.specs.Boxes.{afterwards, boxes_run, boxes_run_all}
use Rattle.syntax.proofs.Answers.{then}
use Rattle.dynamics.proofs.Kept.{keeps_ok, Lasting, drop_keeps, close_keeps}

afterwards_ok : {E A : Type 0} (m : Result E A) (f : A → ℕ) (a : A) → m ≡ ok a → afterwards m f ≡ f a
unfolding afterwards
afterwards_ok m f a e = rw e refl

-- ---- no drop and no closing takes a cell

abbrev Taken : ℕ → State → Type 0
Taken n s = s.taken ≡ n

lasting : (n : ℕ) → Lasting (Taken n)
lasting n = record { back = λ s c v e h. h; close = λ s x h. h }

drop_takes : (i : ℕ) (s s' : State) (v : Value) → drop_value i s v ≡ ok s' → s'.taken ≡ s.taken
drop_takes i s s' v h = keeps_ok (drop_keeps (lasting s.taken) i s v refl) s' h

close_takes : (i : ℕ) (s s' : State) (xs : List ℕ) → close_all i s xs ≡ ok s' → s'.taken ≡ s.taken
close_takes i s s' xs h = keeps_ok (close_keeps (lasting s.taken) i xs s refl) s' h

out_taken : {s s' : State} {v v' : Value} → ◌≡◌ {A = Ran Outcome} (ok (s, v)) (ok (s', v')) → s'.taken ≡ s.taken
out_taken {s} {s'} {v} {v'} e = let z : ◌≡◌ {A = Outcome} (s', v') (s, v) = cc in ap (λ (k : Outcome). k.0.taken) z

assign_takes : (i : ℕ) (p : Place) (s s' : State) (v v' : Value) → run_assign s i p v ≡ ok (s', v') → s'.taken ≡ s.taken
unfolding run_assign
assign_takes i p s s' v v' h =
    let a = then (locate s i p) _ (s', v') h in
    let b = then (drop_value i s (value_in (s.store a.0))) _ (s', v') a.2 in
    go b.0 a.0 (is_open (b.0.store a.0)) b.2 (drop_takes i s b.0 _ b.1)
  where
    go : (t : State) (l : Location) (c : Bool)
        → ◌≡◌ {A = Ran Outcome} (ok (pick c (with_store t (put t.store l (open_with v))) t, empty)) (ok (s', v')) → t.taken ≡ s.taken
        → s'.taken ≡ s.taken
    go t l true e q = out_taken e ∙ q
    go t l false e q = out_taken e ∙ q

module _ (readings : ℕ → ℕ) where
  All : Terms → Type 0
  All ts = (i : ℕ) (s s' : State) (v : Value) → runs readings ts i s ≡ ok (s', v) → s'.taken ≡ s.taken + boxes_run_all readings ts i s

  taken_block : (ts : Terms) → All ts → (i : ℕ) (s s' : State) (v : Value)
      → (runs readings ts i (entered s) >>= λ o. run_block_end i s.opened o) ≡ ok (s', v)
      → s'.taken ≡ s.taken + boxes_run_all readings ts i (entered s)
  unfolding All run_block_end
  taken_block ts ih i s s' v h =
      let a = then (runs readings ts i (entered s)) _ (s', v) h in
      let c = ih i (entered s) a.0.0 a.0.1 a.1 in
      let b = then (close_all i a.0.0 a.0.0.opened) _ (s', v) a.2 in
      let z = out_taken b.2 in
      let y = close_takes i a.0.0 b.0 a.0.0.opened b.1 in
      omega arith

  taken_choice : (c : Bool) (j : ℕ) (us : Terms) (k : ℕ) (vs : Terms) (s s' : State) (v : Value) → All us → All vs
      → pick c (runs readings vs k (entered s) >>= λ o. run_block_end k s.opened o) (runs readings us j (entered s) >>= λ o. run_block_end j s.opened o) ≡ ok (s', v)
      → s'.taken ≡ s.taken + pick c (boxes_run_all readings vs k (entered s)) (boxes_run_all readings us j (entered s))
  taken_choice true j us k vs s s' v iu iv h = taken_block vs iv k s s' v h
  taken_choice false j us k vs s s' v iu iv h = taken_block us iu j s s' v h

  pair_takes : (f : ℕ → ℕ → ℕ) (i : ℕ) (p q : Place) (s s' : State) (v : Value) → run_pair f s i p q ≡ ok (s', v) → s'.taken ≡ s.taken
  unfolding run_pair
  pair_takes f i p q s s' v h =
      let a = then (run_number s i p) _ (s', v) h in
      let b = then (run_number s i q) _ (s', v) a.2 in
      let z = out_taken b.2 in omega arith

  mutual
    unfolding run boxes_run All run_copy run_move run_borrow run_pair run_box run_let run_block_end

    pub taken_is : (t : Term) (s s' : State) (v : Value) → run readings t s ≡ ok (s', v) → s'.taken ≡ s.taken + boxes_run readings t s
    taken_is (number i n) s s' v h = let z = out_taken h in omega arith
    taken_is (reading i n) s s' v h = let z = out_taken h in omega arith
    taken_is (copy i p) s s' v h =
        let a = then (locate s i p) _ (s', v) h in
        let b = then (filled s i (s.store a.0)) _ (s', v) a.2 in
        let z = out_taken b.2 in omega arith
    taken_is (move i p) s s' v h =
        let a = then (locate s i p) _ (s', v) h in
        let b = then (filled s i (s.store a.0)) _ (s', v) a.2 in
        let z = out_taken b.2 in omega arith
    taken_is (borrow_shared i p) s s' v h =
        let a = then (locate s i p) _ (s', v) h in
        let z = out_taken a.2 in omega arith
    taken_is (borrow_exclusive i p) s s' v h =
        let a = then (locate s i p) _ (s', v) h in
        let z = out_taken a.2 in omega arith
    taken_is (box i t) s s' v h =
        let a = then (run readings t s) _ (s', v) h in
        let c = taken_is t s a.0.0 a.0.1 a.1 in
        let z = out_taken a.2 in
        let y = afterwards_ok (run readings t s) (λ o. 1) a.0 a.1 in
        omega arith
    taken_is (declare i x t) s s' v h =
        let a = then (run readings t s) _ (s', v) h in
        let c = taken_is t s a.0.0 a.0.1 a.1 in
        let b = then (need _ _) _ (s', v) a.2 in
        let z = out_taken b.2 in
        omega arith
    taken_is (assign i p t) s s' v h =
        let a = then (run readings t s) _ (s', v) h in
        let c = taken_is t s a.0.0 a.0.1 a.1 in
        let z = assign_takes i p a.0.0 s' a.0.1 v a.2 in
        omega arith
    taken_is (below i p q) s s' v h = let z = pair_takes compared i p q s s' v h in omega arith
    taken_is (sum i p q) s s' v h = let z = pair_takes held_sum i p q s s' v h in omega arith
    taken_is (block i ts) s s' v h = taken_block ts (λ i s s' v h. taken_all ts i s s' v h) i s s' v h
    taken_is (choice i p j us k vs) s s' v h =
        let a = then (run_number s i p) _ (s', v) h in
        let y = afterwards_ok (run_number s i p) (λ n. pick (eqb n 0) (boxes_run_all readings vs k (entered s)) (boxes_run_all readings us j (entered s))) a.0 a.1 in
        taken_choice (eqb a.0 0) j us k vs s s' v (λ i s s' v h. taken_all us i s s' v h) (λ i s s' v h. taken_all vs i s s' v h) a.2 ∙ ap (λ (q : ℕ). s.taken + q) (sym y)

    taken_all : (ts : Terms) (i : ℕ) (s s' : State) (v : Value) → runs readings ts i s ≡ ok (s', v)
        → s'.taken ≡ s.taken + boxes_run_all readings ts i s
    taken_all (last t) i s s' v h = taken_is t s s' v h
    taken_all (more t ts) i s s' v h =
        let a = then (run readings t s) _ (s', v) h in
        let c = taken_is t s a.0.0 a.0.1 a.1 in
        let b = then (drop_value i a.0.0 a.0.1) _ (s', v) a.2 in
        let y = drop_takes i a.0.0 b.0 a.0.1 b.1 in
        let d = taken_all ts i b.0 s' v b.2 in
        let e = afterwards_ok (run readings t s) (λ o. afterwards (drop_value i o.0 o.1) (λ s'. boxes_run_all readings ts i s')) a.0 a.1 in
        let f = afterwards_ok (drop_value i a.0.0 a.0.1) (λ s'. boxes_run_all readings ts i s') b.0 b.1 in
        omega arith

-- ---- a script's box terms are as many as finish, at least

module _ (readings : ℕ → ℕ) where
  once : {E A : Type 0} (m : Result E A) → afterwards m (λ a. 1) ≤ 1
  unfolding afterwards
  once (ok a) = omega arith
  once (err e) = omega arith

  at_most : {E A : Type 0} (m : Result E A) (f : A → ℕ) (n : ℕ) → ((a : A) → f a ≤ n) → afterwards m f ≤ n
  unfolding afterwards
  at_most (ok a) f n h = h a
  at_most (err e) f n h = omega arith

  one_of : (c : Bool) (a b m n : ℕ) → a ≤ m → b ≤ n → pick c b a ≤ m + n
  one_of true a b m n h k = omega arith
  one_of false a b m n h k = omega arith

  mutual
    unfolding boxes_run boxes_in

    pub boxes_bound : (t : Term) (s : State) → boxes_run readings t s ≤ boxes_in t
    boxes_bound (number i n) s = omega arith
    boxes_bound (reading i n) s = omega arith
    boxes_bound (copy i p) s = omega arith
    boxes_bound (move i p) s = omega arith
    boxes_bound (borrow_shared i p) s = omega arith
    boxes_bound (borrow_exclusive i p) s = omega arith
    boxes_bound (box i t) s = let a = boxes_bound t s in let b = once (run readings t s) in omega arith
    boxes_bound (declare i x t) s = boxes_bound t s
    boxes_bound (assign i p t) s = boxes_bound t s
    boxes_bound (below i p q) s = omega arith
    boxes_bound (sum i p q) s = omega arith
    boxes_bound (block i ts) s = boxes_bound_all ts i (entered s)
    boxes_bound (choice i p j us k vs) s =
        at_most (run_number s i p) (λ n. pick (eqb n 0) (boxes_run_all readings vs k (entered s)) (boxes_run_all readings us j (entered s))) (boxes_all us + boxes_all vs)
        (λ n. one_of (eqb n 0) _ _ _ _ (boxes_bound_all us j (entered s)) (boxes_bound_all vs k (entered s)))

    boxes_bound_all : (ts : Terms) (i : ℕ) (s : State) → boxes_run_all readings ts i s ≤ boxes_all ts
    boxes_bound_all (last t) i s = boxes_bound t s
    boxes_bound_all (more t ts) i s =
        let a = boxes_bound t s in
        let b = at_most (run readings t s) (λ o. afterwards (drop_value i o.0 o.1) (λ s'. boxes_run_all readings ts i s')) (boxes_all ts)
        (λ o. at_most (drop_value i o.0 o.1) (λ s'. boxes_run_all readings ts i s') (boxes_all ts) (λ s'. boxes_bound_all ts i s')) in
        omega arith
