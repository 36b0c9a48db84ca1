-- The run of a term, of a block's terms, and of a whole script (LANGUAGE 4.9 to 4.20, 4.23).
use Rattle.std.specs.Prelude.{ℕ, suc, not, List, [], ◌∷◌, eqb}
use Rattle.syntax.specs.Result.{ok, ◌>>=◌, need, pick}
use Rattle.syntax.specs.Script.{Place, Term, number, reading, copy, move, borrow_shared, borrow_exclusive, box, declare, assign, below, block, choice, sum, Terms, last, more}
use Rattle.dynamics.specs.Values.{variable, cell, Value, empty, num, owner, reference, open_with}
use Rattle.dynamics.specs.Store.{Store, cleared, put, is_open, value_in, State, with_store, Ran}
use Rattle.dynamics.specs.Locate.{locate, filled, number_in}
use Rattle.dynamics.specs.Drop.{drop_value, close_all}
use Rattle.dynamics.specs.Signed.{compared, held_sum}

-- The state afterwards and the term's value; no value is empty here (LANGUAGE 4.19).
abbrev pub Outcome : Type 0
Outcome = State × Value

-- Copy (LANGUAGE 4.10): locate, read; the row stays.
unfoldable pub run_copy : State → ℕ → Place → Ran Outcome
run_copy s i p =
    locate s i p >>= λ l.
    filled s i (s.store l) >>= λ v.
    ok (s, v)

-- Move (LANGUAGE 4.11): locate, read; the row becomes empty.
unfoldable pub run_move : State → ℕ → Place → Ran Outcome
run_move s i p =
    locate s i p >>= λ l.
    filled s i (s.store l) >>= λ v.
    ok (with_store s (put s.store l (open_with empty)), v)

-- Borrow, of either kind (LANGUAGE 4.12): a reference to the located row.
unfoldable pub run_borrow : State → ℕ → Place → Ran Outcome
run_borrow s i p = locate s i p >>= λ l. ok (s, reference l)

-- A place of a below, a sum or a choice (LANGUAGE 4.16, 4.23): locate, read; a number must be there.
unfoldable pub run_number : State → ℕ → Place → Ran ℕ
run_number s i p =
    locate s i p >>= λ l.
    filled s i (s.store l) >>= λ v.
    number_in s i v

-- A term with two places (LANGUAGE 4.16): the number at the first place, then that at the second, and what f makes of both.
unfoldable pub run_pair : (ℕ → ℕ → ℕ) → State → ℕ → Place → Place → Ran Outcome
run_pair f s i p q =
    run_number s i p >>= λ a.
    run_number s i q >>= λ b.
    ok (s, num (f a b))

-- Let (LANGUAGE 4.14), after the inner term: its row opens, 62 if it is open already. No value is stored as empty (4.19), here and below.
unfoldable pub run_let : State → ℕ → ℕ → Value → Ran Outcome
run_let s i x v =
    need (not (is_open (s.store (variable x)))) (record { number = 62; term = i; state = s }) >>= λ _.
    ok (record { store = put s.store (variable x) (open_with v); taken = s.taken; opened = x ∷ s.opened }, empty)

-- Assign (LANGUAGE 4.15), after the right side: locate, drop the old value, which the row keeps meanwhile, then write if the row is still
-- open.
unfoldable pub run_assign : State → ℕ → Place → Value → Ran Outcome
run_assign s i p v =
    locate s i p >>= λ l.
    drop_value i s (value_in (s.store l)) >>= λ s'.
    ok (pick (is_open (s'.store l)) (with_store s' (put s'.store l (open_with v))) s', empty)

-- Box (LANGUAGE 4.13), after the inner term: the next cell opens with its value.
unfoldable pub run_box : State → Value → Ran Outcome
run_box s v =
    ok (record { store = put s.store (cell s.taken) (open_with v); taken = suc s.taken; opened = s.opened }, owner s.taken)

-- The end of a block (LANGUAGE 4.17): its variables are closed. Those of the block around it are then the innermost block's again.
unfoldable pub run_block_end : ℕ → List ℕ → Outcome → Ran Outcome
run_block_end i around o =
    close_all i o.0 o.0.opened >>= λ s.
    ok (record { store = s.store; taken = s.taken; opened = around }, o.1)

-- The state in which a block's terms begin: no variable lives in it yet (LANGUAGE 4.18).
abbrev pub entered : State → State
entered s = record { store = s.store; taken = s.taken; opened = [] }

-- The state in which a run begins (LANGUAGE 4.4), whatever the store was before.
abbrev pub begun : Store → State
begun earlier = record { store = cleared earlier; taken = 0; opened = [] }

module _ (readings : ℕ → ℕ) where
  unfoldable mutual
    -- A number is itself, and a reading the lent one (LANGUAGE 4.9); each other case is the run rule of its kind (4.10 to 4.17, 4.23).
    pub run : Term → State → Ran Outcome
    run (number i n) s = ok (s, num n)
    run (reading i n) s = ok (s, num (readings n))
    run (copy i p) s = run_copy s i p
    run (move i p) s = run_move s i p
    run (borrow_shared i p) s = run_borrow s i p
    run (borrow_exclusive i p) s = run_borrow s i p
    run (box i t) s = run t s >>= λ o. run_box o.0 o.1
    run (declare i x t) s = run t s >>= λ o. run_let o.0 i x o.1
    run (assign i p t) s = run t s >>= λ o. run_assign o.0 i p o.1
    run (below i p q) s = run_pair compared s i p q
    run (sum i p q) s = run_pair held_sum s i p q
    run (block i ts) s = runs ts i (entered s) >>= λ o. run_block_end i s.opened o
    -- The first block runs if the number at the place is not 0, else the second (LANGUAGE 4.23).
    run (choice i p j us k vs) s =
        run_number s i p >>= λ n.
        pick (eqb n 0)
        (runs vs k (entered s) >>= λ o. run_block_end k s.opened o)
        (runs us j (entered s) >>= λ o. run_block_end j s.opened o)

    -- The terms of block i (LANGUAGE 4.17): each value but the last is dropped after its term.
    pub runs : Terms → ℕ → State → Ran Outcome
    runs (last t) i s = run t s
    runs (more t ts) i s =
        run t s >>= λ o.
        drop_value i o.0 o.1 >>= λ s'.
        runs ts i s'

  -- The whole run (LANGUAGE 4.4): the state at its end, and the answer, which must be a number (61 at 0, after closing; 4.20).
  unfoldable pub run_script : Term → Store → Ran (State × ℕ)
  run_script t earlier =
      run t (begun earlier) >>= λ o.
      number_in o.0 0 o.1 >>= λ n.
      ok (o.0, n)
