-- The boxes that ran to their end (LANGUAGE 4.22, 7.4): a count along the run.
use Rattle.std.specs.Prelude.{ℕ, ◌+◌, eqb}
use Rattle.syntax.specs.Result.{Result, ok, err, pick}
use Rattle.syntax.specs.Script.{Term, number, reading, copy, move, borrow_shared, borrow_exclusive, box, declare, assign, below, block, choice, sum, Terms, last, more}
use Rattle.dynamics.specs.Store.{State}
use Rattle.dynamics.specs.Drop.{drop_value}
use Rattle.dynamics.specs.Run.{run_number, entered, run}

-- What is counted after a step, if it finishes.
unfoldable pub afterwards : {E A : Type 0} → Result E A → (A → ℕ) → ℕ
afterwards (ok a) count = count a
afterwards (err e) count = 0

module _ (readings : ℕ → ℕ) where
  unfoldable mutual
    -- The boxes in a term that run to their end (LANGUAGE 4.22).
    pub boxes_run : Term → State → ℕ
    boxes_run (number i n) s = 0
    boxes_run (reading i n) s = 0
    boxes_run (copy i p) s = 0
    boxes_run (move i p) s = 0
    boxes_run (borrow_shared i p) s = 0
    boxes_run (borrow_exclusive i p) s = 0
    -- A box runs to its end if its inner term does (LANGUAGE 4.13).
    boxes_run (box i t) s = boxes_run t s + afterwards (run readings t s) (λ o. 1)
    boxes_run (declare i x t) s = boxes_run t s
    boxes_run (assign i p t) s = boxes_run t s
    boxes_run (below i p q) s = 0
    boxes_run (sum i p q) s = 0
    boxes_run (block i ts) s = boxes_run_all ts i (entered s)
    -- Of a choice only one block runs (LANGUAGE 4.23).
    boxes_run (choice i p j us k vs) s =
        afterwards (run_number s i p) (λ n. pick (eqb n 0) (boxes_run_all vs k (entered s)) (boxes_run_all us j (entered s)))

    pub boxes_run_all : Terms → ℕ → State → ℕ
    boxes_run_all (last t) i s = boxes_run t s
    boxes_run_all (more t ts) i s =
        boxes_run t s + afterwards (run readings t s) (λ o. afterwards (drop_value i o.0 o.1) (λ s'. boxes_run_all ts i s'))
