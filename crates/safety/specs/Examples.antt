-- Scripts E1 to E11 and some with a choice, what they come to, and what LANGUAGE says they come to: 8.4, and 3.31 and 4.23.
use Rattle.std.specs.Prelude.{ℕ, zero, suc, List, [], ◌∷◌}
use Rattle.syntax.specs.Result.{Result, ok, err, Refusal}
use Rattle.syntax.specs.Limits.{base}
use Rattle.syntax.specs.Script.{Place, Term, number, reading, copy, move, borrow_shared, borrow_exclusive, box, declare, assign, below, block, choice, sum, Terms, last, more}
use Rattle.syntax.specs.Measures.{size}
use Rattle.statics.specs.Judge.{judge_script}
use Rattle.dynamics.specs.Values.{closed}
use Rattle.dynamics.specs.Store.{State, Ran}
use Rattle.dynamics.specs.Run.{run_script}

-- Places in the notation of LANGUAGE 1.5.
abbrev v : ℕ → Place
v x = record { root = x; follows = 0 }

abbrev star : Place → Place
star p = record { root = p.root; follows = suc p.follows }

infixr 30 ◌⨾◌
abbrev ◌⨾◌ : Term → Terms → Terms
◌⨾◌ t ts = more t ts

-- `v0=reading 0; v1=reading 1; v2=&v0; below *v2, v1`
unfoldable pub e1 : Term
e1 =
    block 0 (
    declare 1 0 (reading 2 0)
    ⨾ declare 3 1 (reading 4 1)
    ⨾ declare 5 2 (borrow_shared 6 (v 0))
    ⨾ last (below 7 (star (v 2)) (v 1)))

unfoldable pub e1_bytes : List ℕ
e1_bytes =
    0x52 ∷ 0x43 ∷ 0x53 ∷ 0x00 ∷ 0x01 ∷ 0x0b ∷ 0x04 ∷ 0x08 ∷ 0x00 ∷ 0x02 ∷ 0x00 ∷ 0x08 ∷ 0x01
    ∷ 0x02 ∷ 0x01 ∷ 0x08 ∷ 0x02 ∷ 0x05 ∷ 0x00 ∷ 0x00 ∷ 0x0a ∷ 0x02 ∷ 0x01 ∷ 0x01 ∷ 0x00 ∷ []

-- `v0=reading 0; v1=reading 1; sum v0, v1`
unfoldable pub sums : Term
sums =
    block 0 (
    declare 1 0 (reading 2 0)
    ⨾ declare 3 1 (reading 4 1)
    ⨾ last (sum 5 (v 0) (v 1)))

-- `let v0=5; let v1=&mut v0; copy v0`
unfoldable pub e2 : Term
e2 =
    block 0 (
    declare 1 0 (number 2 5)
    ⨾ declare 3 1 (borrow_exclusive 4 (v 0))
    ⨾ last (copy 5 (v 0)))

-- `let v0=5; let v1=&mut v0; copy v0; copy *v1`
unfoldable pub e2_used_again : Term
e2_used_again =
    block 0 (
    declare 1 0 (number 2 5)
    ⨾ declare 3 1 (borrow_exclusive 4 (v 0))
    ⨾ copy 5 (v 0)
    ⨾ last (copy 6 (star (v 1))))

-- `let v0=box 7; let v1=move v0; copy *v0`
unfoldable pub e3 : Term
e3 =
    block 0 (
    declare 1 0 (box 2 (number 3 7))
    ⨾ declare 4 1 (move 5 (v 0))
    ⨾ last (copy 6 (star (v 0))))

-- `let v0=box 7; let v1=move *v0; *v0=8; copy *v0`
unfoldable pub e4 : Term
e4 =
    block 0 (
    declare 1 0 (box 2 (number 3 7))
    ⨾ declare 4 1 (move 5 (star (v 0)))
    ⨾ assign 6 (star (v 0)) (number 7 8)
    ⨾ last (copy 8 (star (v 0))))

-- `let v0=1; let v1={let v2=3; &v2}; copy v0`
unfoldable pub e5 : Term
e5 =
    block 0 (
    declare 1 0 (number 2 1)
    ⨾ declare 3 1 (block 4 (declare 5 2 (number 6 3) ⨾ last (borrow_shared 7 (v 2))))
    ⨾ last (copy 8 (v 0)))

-- `let v0=1; let v1=2; let v2=&v0; v2=&v1; v0=9; copy *v2`
unfoldable pub e6 : Term
e6 =
    block 0 (
    declare 1 0 (number 2 1)
    ⨾ declare 3 1 (number 4 2)
    ⨾ declare 5 2 (borrow_shared 6 (v 0))
    ⨾ assign 7 (v 2) (borrow_shared 8 (v 1))
    ⨾ assign 9 (v 0) (number 10 9)
    ⨾ last (copy 11 (star (v 2))))

-- `let v0=1; let v1=&v0; let v2=&v1; **v2=4; 0`
unfoldable pub e7 : Term
e7 =
    block 0 (
    declare 1 0 (number 2 1)
    ⨾ declare 3 1 (borrow_shared 4 (v 0))
    ⨾ declare 5 2 (borrow_shared 6 (v 1))
    ⨾ assign 7 (star (star (v 2))) (number 8 4)
    ⨾ last (number 9 0))

-- `let v0=box 1; let v1=copy v0; 0`
unfoldable pub e9 : Term
e9 =
    block 0 (
    declare 1 0 (box 2 (number 3 1))
    ⨾ declare 4 1 (copy 5 (v 0))
    ⨾ last (number 6 0))

-- n boxes round 1, numbered from i on.
unfoldable pub boxed : ℕ → ℕ → Term
boxed zero i = number i 1
boxed (suc n) i = box i (boxed n (suc i))

-- `let v0=` nine boxes round 1`; 0`, or eight.
unfoldable pub nine : Term
nine =
    block 0 (
    declare 1 0 (boxed 9 2)
    ⨾ last (number 12 0))

unfoldable pub eight : Term
eight =
    block 0 (
    declare 1 0 (boxed 8 2)
    ⨾ last (number 11 0))

-- `let v0=1; let v1=2; let v2=&v0; v2={let v3=&v1; &*v3}; copy *v2`
unfoldable pub e11 : Term
e11 =
    block 0 (
    declare 1 0 (number 2 1)
    ⨾ declare 3 1 (number 4 2)
    ⨾ declare 5 2 (borrow_shared 6 (v 0))
    ⨾ assign 7 (v 2) (block 8 (declare 9 3 (borrow_shared 10 (v 1)) ⨾ last (borrow_shared 11 (star (v 3)))))
    ⨾ last (copy 12 (star (v 2))))

-- `let v0=reading 0; let v1=1; let v2=2; let v3=choice v0 {&v1} {&v2}; copy *v3`
unfoldable pub lent : Term
lent =
    block 0 (
    declare 1 0 (reading 2 0)
    ⨾ declare 3 1 (number 4 1)
    ⨾ declare 5 2 (number 6 2)
    ⨾ declare 7 3 (choice 8 (v 0) 9 (last (borrow_shared 10 (v 1))) 11 (last (borrow_shared 12 (v 2))))
    ⨾ last (copy 13 (star (v 3))))

-- `let v0=reading 0; let v1=box 1; let v2=box 2; {let v3=&mut *v1; choice v0 {v3=&mut *v2; 0} {0}; *v3=5}; sum *v1, *v2`
unfoldable pub written : Term
written =
    block 0 (
    declare 1 0 (reading 2 0)
    ⨾ declare 3 1 (box 4 (number 5 1))
    ⨾ declare 6 2 (box 7 (number 8 2))
    ⨾ block 9 (
    declare 10 3 (borrow_exclusive 11 (star (v 1)))
    ⨾ choice 12 (v 0) 13 (assign 14 (v 3) (borrow_exclusive 15 (star (v 2))) ⨾ last (number 16 0)) 17 (last (number 18 0))
    ⨾ last (assign 19 (star (v 3)) (number 20 5)))
    ⨾ last (sum 21 (star (v 1)) (star (v 2))))

-- `let v0=reading 0; let v1=box 1; let v2=box 2; let v3=&mut *v1; choice v0 {v3=&mut *v2; move v1; 1} {1}; *v3=5; 1`
unfoldable pub away : Term
away =
    block 0 (
    declare 1 0 (reading 2 0)
    ⨾ declare 3 1 (box 4 (number 5 1))
    ⨾ declare 6 2 (box 7 (number 8 2))
    ⨾ declare 9 3 (borrow_exclusive 10 (star (v 1)))
    ⨾ choice 11 (v 0) 12 (assign 13 (v 3) (borrow_exclusive 14 (star (v 2))) ⨾ move 15 (v 1) ⨾ last (number 16 1)) 17 (last (number 18 1))
    ⨾ assign 19 (star (v 3)) (number 20 5)
    ⨾ last (number 21 1))

-- `let v0=reading 0; choice v0 {1} {&v0}; 0`
unfoldable pub unlike : Term
unlike =
    block 0 (
    declare 1 0 (reading 2 0)
    ⨾ choice 3 (v 0) 4 (last (number 5 1)) 6 (last (borrow_shared 7 (v 0)))
    ⨾ last (number 8 0))

-- Readings 185 and then 200.
unfoldable pub readings : ℕ → ℕ
readings zero = 185
readings (suc n) = 200

-- As `roomcheck` prints it: `accepted 8 call 1 cells 0`, terms, answer, cells taken; `refused 34 at 5`. And a fault, with its term.
pub data Line : Type 0 where
  accepted : ℕ → ℕ → ℕ → Line
  refused faulted : ℕ → ℕ → Line

unfoldable pub ran_to : Term → Ran (State × ℕ) → Line
ran_to t (ok r) = accepted (size t) r.1 r.0.taken
ran_to t (err f) = faulted f.number f.term

unfoldable pub unchecked : Term → Line
unchecked t = ran_to t (run_script readings t (λ l. closed))

-- The same with every reading 0.
unfoldable pub at_zero : Term → Line
at_zero t = ran_to t (run_script (λ n. 0) t (λ l. closed))

unfoldable pub verdict : Term → Result Refusal (Unit {0}) → Line
verdict t (ok u) = unchecked t
verdict t (err e) = refused e.0 e.1

unfoldable pub checked : Term → Line
checked t = verdict t (judge_script base.variables t)

unfoldable pub lines : List Line
lines =
    checked e1 ∷ checked e2 ∷ checked e2_used_again ∷ checked e3 ∷ checked e4 ∷ checked e5 ∷ checked e6 ∷ checked e7 ∷ unchecked e3
    ∷ checked e9 ∷ unchecked e9 ∷ checked nine ∷ checked eight ∷ checked e11
    ∷ checked lent ∷ at_zero lent ∷ checked written ∷ at_zero written ∷ checked away ∷ checked unlike ∷ []

unfoldable pub table : List Line
table =
    -- E1 to E4; E2 also with its borrow in use at the copy.
    accepted 8 1 0
    ∷ accepted 6 5 0
    ∷ refused 34 5
    ∷ refused 33 6
    ∷ accepted 9 8 1
    -- E5 to E7.
    ∷ refused 40 4
    ∷ accepted 12 2 0
    ∷ refused 36 7
    -- E8, which is E3 unchecked; E9, checked and unchecked.
    ∷ faulted 60 6
    ∷ refused 37 5
    ∷ faulted 63 0
    -- E10, with nine boxes and with eight; E11.
    ∷ refused 42 2
    ∷ accepted 12 0 8
    ∷ accepted 13 2 0
    -- A choice whose value is either borrow, with each block run.
    ∷ accepted 14 1 0
    ∷ accepted 14 2 0
    -- A write that may land in either box, with each block run.
    ∷ accepted 22 6 2
    ∷ accepted 22 7 2
    -- The same once one of the boxes may have been moved away; blocks whose values differ.
    ∷ refused 33 19
    ∷ refused 39 3
    ∷ []
