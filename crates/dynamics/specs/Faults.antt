-- The faults that a run meets on its way: at a term, at a drop or at a closing (LANGUAGE 4.5, 7.4). A term, drop or closing after a fault
-- is not reached, so each clause says that what comes before it ended.
use Rattle.std.specs.Prelude.{ℕ, ◌≡◌, List, ◌∷◌}
use Rattle.syntax.specs.Result.{ok, err}
use Rattle.syntax.specs.Script.{Place, Term, copy, move, borrow_shared, borrow_exclusive, box, declare, assign, below, block, choice, sum, Terms, last, more}
use Rattle.dynamics.specs.Values.{Location, variable, closed}
use Rattle.dynamics.specs.Store.{Store, put, value_in, State, with_store, Fault}
use Rattle.dynamics.specs.Locate.{locate, number_in}
use Rattle.dynamics.specs.Drop.{drop_value}
use Rattle.dynamics.specs.Signed.{compared, held_sum}
use Rattle.dynamics.specs.Run.{Outcome, run_copy, run_move, run_borrow, run_number, run_pair, run_let, entered, begun, run, runs}

-- Closing the variables for block i, one after the other: dropping the value of one of them meets the fault.
pub data ClosingMeets (i : ℕ) : State → List ℕ → Fault → Type 0 where
  at_first : {s : State} {x : ℕ} {xs : List ℕ} {f : Fault}
      → drop_value i (with_store s (put s.store (variable x) closed)) (value_in (s.store (variable x))) ≡ err f → ClosingMeets i s (x ∷ xs) f
  at_later : {s s' : State} {x : ℕ} {xs : List ℕ} {f : Fault}
      → drop_value i (with_store s (put s.store (variable x) closed)) (value_in (s.store (variable x))) ≡ ok s' → ClosingMeets i s' xs f → ClosingMeets i s (x ∷ xs) f

module _ (readings : ℕ → ℕ) where
  mutual
    -- Running the term from the state meets the fault.
    pub data TermMeets : Term → State → Fault → Type 0 where
      at_copy : {i : ℕ} {p : Place} {s : State} {f : Fault} → run_copy s i p ≡ err f → TermMeets (copy i p) s f
      at_move : {i : ℕ} {p : Place} {s : State} {f : Fault} → run_move s i p ≡ err f → TermMeets (move i p) s f
      at_shared : {i : ℕ} {p : Place} {s : State} {f : Fault} → run_borrow s i p ≡ err f → TermMeets (borrow_shared i p) s f
      at_exclusive : {i : ℕ} {p : Place} {s : State} {f : Fault} → run_borrow s i p ≡ err f → TermMeets (borrow_exclusive i p) s f
      at_below : {i : ℕ} {p q : Place} {s : State} {f : Fault} → run_pair compared s i p q ≡ err f → TermMeets (below i p q) s f
      at_sum : {i : ℕ} {p q : Place} {s : State} {f : Fault} → run_pair held_sum s i p q ≡ err f → TermMeets (sum i p q) s f
      in_box : {i : ℕ} {t : Term} {s : State} {f : Fault} → TermMeets t s f → TermMeets (box i t) s f
      in_let : {i x : ℕ} {t : Term} {s : State} {f : Fault} → TermMeets t s f → TermMeets (declare i x t) s f
      at_let : {i x : ℕ} {t : Term} {s : State} {f : Fault} (o : Outcome) → run readings t s ≡ ok o → run_let o.0 i x o.1 ≡ err f → TermMeets (declare i x t) s f
      in_assign : {i : ℕ} {p : Place} {t : Term} {s : State} {f : Fault} → TermMeets t s f → TermMeets (assign i p t) s f
      at_place : {i : ℕ} {p : Place} {t : Term} {s : State} {f : Fault} (o : Outcome) → run readings t s ≡ ok o → locate o.0 i p ≡ err f → TermMeets (assign i p t) s f
      at_old : {i : ℕ} {p : Place} {t : Term} {s : State} {f : Fault} (o : Outcome) (l : Location)
          → run readings t s ≡ ok o → locate o.0 i p ≡ ok l → drop_value i o.0 (value_in (o.0.store l)) ≡ err f → TermMeets (assign i p t) s f
      in_block : {i : ℕ} {ts : Terms} {s : State} {f : Fault} → TermsMeet i ts (entered s) f → TermMeets (block i ts) s f
      at_closing : {i : ℕ} {ts : Terms} {s : State} {f : Fault} (o : Outcome) → runs readings ts i (entered s) ≡ ok o → ClosingMeets i o.0 o.0.opened f → TermMeets (block i ts) s f
      at_choice : {i : ℕ} {p : Place} {j : ℕ} {us : Terms} {k : ℕ} {vs : Terms} {s : State} {f : Fault} → run_number s i p ≡ err f → TermMeets (choice i p j us k vs) s f
      in_first_block : {i : ℕ} {p : Place} {j : ℕ} {us : Terms} {k : ℕ} {vs : Terms} {s : State} {f : Fault} (n : ℕ)
          → run_number s i p ≡ ok n → (n ≡ 0 → ⊥) → TermMeets (block j us) s f → TermMeets (choice i p j us k vs) s f
      in_second_block : {i : ℕ} {p : Place} {j : ℕ} {us : Terms} {k : ℕ} {vs : Terms} {s : State} {f : Fault}
          → run_number s i p ≡ ok 0 → TermMeets (block k vs) s f → TermMeets (choice i p j us k vs) s f

    -- Running the terms of block i, with the drops between them.
    pub data TermsMeet : ℕ → Terms → State → Fault → Type 0 where
      in_last : {i : ℕ} {t : Term} {s : State} {f : Fault} → TermMeets t s f → TermsMeet i (last t) s f
      in_first : {i : ℕ} {t : Term} {ts : Terms} {s : State} {f : Fault} → TermMeets t s f → TermsMeet i (more t ts) s f
      at_drop : {i : ℕ} {t : Term} {ts : Terms} {s : State} {f : Fault} (o : Outcome) → run readings t s ≡ ok o → drop_value i o.0 o.1 ≡ err f → TermsMeet i (more t ts) s f
      in_rest : {i : ℕ} {t : Term} {ts : Terms} {s s' : State} {f : Fault} (o : Outcome) → run readings t s ≡ ok o → drop_value i o.0 o.1 ≡ ok s' → TermsMeet i ts s' f → TermsMeet i (more t ts) s f

  -- The whole run, from the store set to 0 to the answer.
  pub data RunMeets (t : Term) (earlier : Store) (f : Fault) : Type 0 where
    on_the_way : TermMeets t (begun earlier) f → RunMeets t earlier f
    at_answer : (o : Outcome) → run readings t (begun earlier) ≡ ok o → number_in o.0 0 o.1 ≡ err f → RunMeets t earlier f
