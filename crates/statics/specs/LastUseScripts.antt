-- The definitions tried on scripts that likely misreadings of last uses (LANGUAGE 3.32 to 3.34) would judge otherwise; LANGUAGE 8.11 lists most of
-- them. Under every larger set they are judged the same (7.7).
use Rattle.std.specs.Prelude.{ℕ, ◌≡◌, refl, List, [], ◌∷◌, map}
use Rattle.syntax.specs.Result.{ok, err, need, ◌>>=◌}
use Rattle.syntax.specs.Script.{Place, Term, number, reading, copy, move, borrow_shared, borrow_exclusive, box, declare, assign, below, block, choice, sum, last, more}
use Rattle.syntax.specs.Measures
use Rattle.statics.specs.Links
use Rattle.statics.specs.Places
use Rattle.statics.specs.Environment
use Rattle.statics.specs.Follow
use Rattle.statics.specs.Uses
use Rattle.statics.specs.Bars
use Rattle.statics.specs.Choice
use Rattle.statics.specs.Rules
use Rattle.statics.specs.Rules.{Judged}
use Rattle.statics.specs.Judge.{judge, judge_script}

abbrev v : ℕ → ℕ → Place
v x follows = record { root = x; follows = follows }

-- Scripts of at most seven variables, each with its verdict.
abbrev Cases : Type 0
Cases = List (Term × Judged (Unit {0}))

abbrev Hold : Cases → Type 0
Hold cs = map (λ (c : Term × Judged (Unit {0})). judge_script 7 c.0) cs ≡ map (λ (c : Term × Judged (Unit {0})). c.1) cs

-- E2 (LANGUAGE 8.4), with 1 for 5: a borrow that no later term names bars nothing; one that a later term names does.
abbrev ended : Cases
ended =
    -- `let v0=1; let v1=&mut v0; copy v0`
    (block 0 (more (declare 1 0 (number 2 1)) (more (declare 3 1 (borrow_exclusive 4 (v 0 0))) (last (copy 5 (v 0 0))))), ok tt) ∷
    -- `let v0=1; let v1=&mut v0; copy v0; copy *v1`
    (block 0 (more (declare 1 0 (number 2 1)) (more (declare 3 1 (borrow_exclusive 4 (v 0 0))) (more (copy 5 (v 0 0)) (last (copy 6 (v 1 1)))))), err (34, 5)) ∷
    []

-- Every test of 34 and 35 asks for a holder in use: shared and exclusive borrow, sum, choice, move, assign.
abbrev barring : Cases
barring =
    -- `let v0=1; let v1=&mut v0; let v2=&v0; copy *v2`
    (block 0 (more (declare 1 0 (number 2 1)) (more (declare 3 1 (borrow_exclusive 4 (v 0 0))) (more (declare 5 2 (borrow_shared 6 (v 0 0))) (last (copy 7 (v 2 1)))))), ok tt) ∷
    -- `let v0=1; let v1=&mut v0; let v2=&mut v0; copy *v2`
    (block 0 (more (declare 1 0 (number 2 1)) (more (declare 3 1 (borrow_exclusive 4 (v 0 0))) (more (declare 5 2 (borrow_exclusive 6 (v 0 0))) (last (copy 7 (v 2 1)))))), ok tt) ∷
    -- `let v0=1; let v1=&mut v0; sum v0, v0`
    (block 0 (more (declare 1 0 (number 2 1)) (more (declare 3 1 (borrow_exclusive 4 (v 0 0))) (last (sum 5 (v 0 0) (v 0 0))))), ok tt) ∷
    -- `let v0=reading 0; let v1=&mut v0; choice v0 {1} {2}`
    (block 0 (more (declare 1 0 (reading 2 0)) (more (declare 3 1 (borrow_exclusive 4 (v 0 0))) (last (choice 5 (v 0 0) 6 (last (number 7 1)) 8 (last (number 9 2)))))), ok tt) ∷
    -- `let v0=box 1; let v1=&*v0; move v0; 0`
    (block 0 (more (declare 1 0 (box 2 (number 3 1))) (more (declare 4 1 (borrow_shared 5 (v 0 1))) (more (move 6 (v 0 0)) (last (number 7 0))))), ok tt) ∷
    -- `let v0=box 1; let v1=&*v0; move v0; copy *v1`
    (block 0 (more (declare 1 0 (box 2 (number 3 1))) (more (declare 4 1 (borrow_shared 5 (v 0 1))) (more (move 6 (v 0 0)) (last (copy 7 (v 1 1)))))), err (35, 6)) ∷
    -- `let v0=1; let v1=&mut v0; *v1=6; v0=7; copy v0`
    (block 0 (more (declare 1 0 (number 2 1)) (more (declare 3 1 (borrow_exclusive 4 (v 0 0))) (more (assign 5 (v 1 1) (number 6 6)) (more (assign 7 (v 0 0) (number 8 7)) (last (copy 9 (v 0 0))))))), ok tt) ∷
    []

-- Every kind of term with a place names its root, and a let its variable, also one whose number is taken (30).
abbrev naming : Cases
naming =
    -- `let v0=1; let v1=&mut v0; copy v0; &v1; 0`
    (block 0 (more (declare 1 0 (number 2 1)) (more (declare 3 1 (borrow_exclusive 4 (v 0 0))) (more (copy 5 (v 0 0)) (more (borrow_shared 6 (v 1 0)) (last (number 7 0)))))), err (34, 5)) ∷
    -- `let v0=1; let v1=&mut v0; copy v0; &mut v1; 0`
    (block 0 (more (declare 1 0 (number 2 1)) (more (declare 3 1 (borrow_exclusive 4 (v 0 0))) (more (copy 5 (v 0 0)) (more (borrow_exclusive 6 (v 1 0)) (last (number 7 0)))))), err (34, 5)) ∷
    -- `let v0=1; let v1=&mut v0; copy v0; move v1; 0`
    (block 0 (more (declare 1 0 (number 2 1)) (more (declare 3 1 (borrow_exclusive 4 (v 0 0))) (more (copy 5 (v 0 0)) (more (move 6 (v 1 0)) (last (number 7 0)))))), err (34, 5)) ∷
    -- `let v0=1; let v1=&mut v0; copy v0; let v1=2; 1`
    (block 0 (more (declare 1 0 (number 2 1)) (more (declare 3 1 (borrow_exclusive 4 (v 0 0))) (more (copy 5 (v 0 0)) (more (declare 6 1 (number 7 2)) (last (number 8 1)))))), err (34, 5)) ∷
    -- `let v0=1; let v1=2; let v2=&mut v0; copy v0; below v1, *v2`
    (block 0 (more (declare 1 0 (number 2 1)) (more (declare 3 1 (number 4 2)) (more (declare 5 2 (borrow_exclusive 6 (v 0 0))) (more (copy 7 (v 0 0)) (last (below 8 (v 1 0) (v 2 1))))))), err (34, 7)) ∷
    -- `let v0=1; let v1=2; let v2=&mut v0; copy v0; sum *v2, v1`
    (block 0 (more (declare 1 0 (number 2 1)) (more (declare 3 1 (number 4 2)) (more (declare 5 2 (borrow_exclusive 6 (v 0 0))) (more (copy 7 (v 0 0)) (last (sum 8 (v 2 1) (v 1 0))))))), err (34, 7)) ∷
    -- `let v0=1; let v1=2; let v2=&mut v0; copy v0; v2=&mut v1; 0`
    (block 0 (more (declare 1 0 (number 2 1)) (more (declare 3 1 (number 4 2)) (more (declare 5 2 (borrow_exclusive 6 (v 0 0))) (more (copy 7 (v 0 0)) (more (assign 8 (v 2 0) (borrow_exclusive 9 (v 1 0))) (last (number 10 0))))))), err (34, 7)) ∷
    []

-- The judged term has not finished: its own names count, those of both places.
abbrev acting : Cases
acting =
    -- `let v0=1; let v1=&mut v0; sum v0, *v1`
    (block 0 (more (declare 1 0 (number 2 1)) (more (declare 3 1 (borrow_exclusive 4 (v 0 0))) (last (sum 5 (v 0 0) (v 1 1))))), err (34, 5)) ∷
    -- `let v0=1; let v1=&mut v0; sum *v1, v0`
    (block 0 (more (declare 1 0 (number 2 1)) (more (declare 3 1 (borrow_exclusive 4 (v 0 0))) (last (sum 5 (v 1 1) (v 0 0))))), err (34, 5)) ∷
    -- `let v0=1; let v1=&mut v0; v1=&mut *v1; 0`
    (block 0 (more (declare 1 0 (number 2 1)) (more (declare 3 1 (borrow_exclusive 4 (v 0 0))) (more (assign 5 (v 1 0) (borrow_exclusive 6 (v 1 1))) (last (number 7 0))))), err (35, 5)) ∷
    []

-- A right side has finished when its assign is judged; inside it the assign has not, nor has one further out.
abbrev assigning : Cases
assigning =
    -- `let v0=1; let v1=&mut v0; v0=copy *v1; copy v0`
    (block 0 (more (declare 1 0 (number 2 1)) (more (declare 3 1 (borrow_exclusive 4 (v 0 0))) (more (assign 5 (v 0 0) (copy 6 (v 1 1))) (last (copy 7 (v 0 0)))))), ok tt) ∷
    -- `let v0=1; let v1=&mut v0; *v1=copy v0; 0`
    (block 0 (more (declare 1 0 (number 2 1)) (more (declare 3 1 (borrow_exclusive 4 (v 0 0))) (more (assign 5 (v 1 1) (copy 6 (v 0 0))) (last (number 7 0))))), err (34, 6)) ∷
    -- `let v0=1; let v1=&mut v0; v1={copy v0; &mut v0}; 0`
    (block 0 (more (declare 1 0 (number 2 1)) (more (declare 3 1 (borrow_exclusive 4 (v 0 0))) (more (assign 5 (v 1 0) (block 6 (more (copy 7 (v 0 0)) (last (borrow_exclusive 8 (v 0 0)))))) (last (number 9 0))))), err (34, 7)) ∷
    []

-- A choice finishes after its branches, and all of the first before the second.
abbrev choosing : Cases
choosing =
    -- `let v0=reading 0; let v1=&mut v0; choice *v1 {copy v0} {0}`
    (block 0 (more (declare 1 0 (reading 2 0)) (more (declare 3 1 (borrow_exclusive 4 (v 0 0))) (last (choice 5 (v 1 1) 6 (last (copy 7 (v 0 0))) 8 (last (number 9 0)))))), err (34, 7)) ∷
    -- `let v0=reading 0; let v1=&mut v0; choice *v1 {0} {copy v0}`
    (block 0 (more (declare 1 0 (reading 2 0)) (more (declare 3 1 (borrow_exclusive 4 (v 0 0))) (last (choice 5 (v 1 1) 6 (last (number 7 0)) 8 (last (copy 9 (v 0 0))))))), err (34, 9)) ∷
    -- `let v0=reading 0; let v1=&mut v0; choice *v1 {{copy v0}} {0}`
    (block 0 (more (declare 1 0 (reading 2 0)) (more (declare 3 1 (borrow_exclusive 4 (v 0 0))) (last (choice 5 (v 1 1) 6 (last (block 7 (last (copy 8 (v 0 0))))) 9 (last (number 10 0)))))), err (34, 8)) ∷
    -- `let v0=reading 0; let v1=&mut v0; choice v0 {copy *v1} {0}`
    (block 0 (more (declare 1 0 (reading 2 0)) (more (declare 3 1 (borrow_exclusive 4 (v 0 0))) (last (choice 5 (v 0 0) 6 (last (copy 7 (v 1 1))) 8 (last (number 9 0)))))), err (34, 5)) ∷
    -- `let v0=reading 0; let v1=1; let v2=&mut v1; choice v0 {copy v1} {copy *v2}`
    (block 0 (more (declare 1 0 (reading 2 0)) (more (declare 3 1 (number 4 1)) (more (declare 5 2 (borrow_exclusive 6 (v 1 0))) (last (choice 7 (v 0 0) 8 (last (copy 9 (v 1 0))) 10 (last (copy 11 (v 2 1)))))))), err (34, 9)) ∷
    -- `let v0=reading 0; let v1=1; let v2=&mut v1; choice v0 {copy *v2} {copy v1}`
    (block 0 (more (declare 1 0 (reading 2 0)) (more (declare 3 1 (number 4 1)) (more (declare 5 2 (borrow_exclusive 6 (v 1 0))) (last (choice 7 (v 0 0) 8 (last (copy 9 (v 2 1))) 10 (last (copy 11 (v 1 0)))))))), ok tt) ∷
    []

-- What a variable in use holds is in use, one after the other, by borrows of either kind and through follows.
abbrev holding : Cases
holding =
    -- `let v0=1; let v1=&mut v0; let v2=&mut v1; copy v0; copy **v2`
    (block 0 (more (declare 1 0 (number 2 1)) (more (declare 3 1 (borrow_exclusive 4 (v 0 0))) (more (declare 5 2 (borrow_exclusive 6 (v 1 0))) (more (copy 7 (v 0 0)) (last (copy 8 (v 2 2))))))), err (34, 7)) ∷
    -- `let v0=1; let v1=&mut v0; let v2=&v1; let v3=&v2; copy v0; copy v3; 0`
    (block 0 (more (declare 1 0 (number 2 1)) (more (declare 3 1 (borrow_exclusive 4 (v 0 0))) (more (declare 5 2 (borrow_shared 6 (v 1 0))) (more (declare 7 3 (borrow_shared 8 (v 2 0))) (more (copy 9 (v 0 0)) (more (copy 10 (v 3 0)) (last (number 11 0)))))))), err (34, 9)) ∷
    -- `let v0=1; let v1=&mut v0; let v2=&mut *v1; copy v0; copy *v2`
    (block 0 (more (declare 1 0 (number 2 1)) (more (declare 3 1 (borrow_exclusive 4 (v 0 0))) (more (declare 5 2 (borrow_exclusive 6 (v 1 1))) (more (copy 7 (v 0 0)) (last (copy 8 (v 2 1))))))), err (34, 7)) ∷
    []

-- Two that only hold each other are not in use.
abbrev circles : Cases
circles =
    -- `let v0=reading 0; let v1=1; let v2=2; let v3=&mut v1; let v4=&mut v2; choice v0 {v3=&mut *v4; 1} {v4=&mut *v3; 1}; copy v1`
    (block 0 (more (declare 1 0 (reading 2 0)) (more (declare 3 1 (number 4 1)) (more (declare 5 2 (number 6 2)) (more (declare 7 3 (borrow_exclusive 8 (v 1 0))) (more (declare 9 4 (borrow_exclusive 10 (v 2 0))) (more (choice 11 (v 0 0) 12 (more (assign 13 (v 3 0) (borrow_exclusive 14 (v 4 1))) (last (number 15 1))) 16 (more (assign 17 (v 4 0) (borrow_exclusive 18 (v 3 1))) (last (number 19 1)))) (last (copy 20 (v 1 0))))))))), ok tt) ∷
    -- `let v0=reading 0; let v1=1; let v2=2; let v3=&mut v1; let v4=&mut v2; choice v0 {v3=&mut *v4; 1} {v4=&mut *v3; 1}; copy v1; copy *v4`
    (block 0 (more (declare 1 0 (reading 2 0)) (more (declare 3 1 (number 4 1)) (more (declare 5 2 (number 6 2)) (more (declare 7 3 (borrow_exclusive 8 (v 1 0))) (more (declare 9 4 (borrow_exclusive 10 (v 2 0))) (more (choice 11 (v 0 0) 12 (more (assign 13 (v 3 0) (borrow_exclusive 14 (v 4 1))) (last (number 15 1))) 16 (more (assign 17 (v 4 0) (borrow_exclusive 18 (v 3 1))) (last (number 19 1)))) (more (copy 20 (v 1 0)) (last (copy 21 (v 4 1)))))))))), err (34, 20)) ∷
    -- `let v0=reading 0; let v1=1; let v2=2; let v3=&mut v1; let v4=&mut v2; choice v0 {v3=&mut *v4; 1} {v4=&mut *v3; 1}; choice *v3 {1} {2}`
    (block 0 (more (declare 1 0 (reading 2 0)) (more (declare 3 1 (number 4 1)) (more (declare 5 2 (number 6 2)) (more (declare 7 3 (borrow_exclusive 8 (v 1 0))) (more (declare 9 4 (borrow_exclusive 10 (v 2 0))) (more (choice 11 (v 0 0) 12 (more (assign 13 (v 3 0) (borrow_exclusive 14 (v 4 1))) (last (number 15 1))) 16 (more (assign 17 (v 4 0) (borrow_exclusive 18 (v 3 1))) (last (number 19 1)))) (last (choice 20 (v 3 1) 21 (last (number 22 1)) 23 (last (number 24 2)))))))))), err (34, 20)) ∷
    []

-- What is moved away, or has left scope, holds nothing.
abbrev ended_holding : Cases
ended_holding =
    -- `let v0=1; let v1=2; let v2=&mut v0; move v2; copy v0; v2=&mut v1; 0`
    (block 0 (more (declare 1 0 (number 2 1)) (more (declare 3 1 (number 4 2)) (more (declare 5 2 (borrow_exclusive 6 (v 0 0))) (more (move 7 (v 2 0)) (more (copy 8 (v 0 0)) (more (assign 9 (v 2 0) (borrow_exclusive 10 (v 1 0))) (last (number 11 0)))))))), ok tt) ∷
    -- `let v0=1; {let v1=&mut v0; 0}; copy v0; copy *v1`
    (block 0 (more (declare 1 0 (number 2 1)) (more (block 3 (more (declare 4 1 (borrow_exclusive 5 (v 0 0))) (last (number 6 0)))) (more (copy 7 (v 0 0)) (last (copy 8 (v 1 1)))))), err (31, 8)) ∷
    []

-- Who holds and who is in use is asked with an assign's new value in place.
abbrev new_state : Cases
new_state =
    -- `let v0=1; let v1=&mut v0; let v2=&mut *v1; v1=&mut *v2; 0`
    (block 0 (more (declare 1 0 (number 2 1)) (more (declare 3 1 (borrow_exclusive 4 (v 0 0))) (more (declare 5 2 (borrow_exclusive 6 (v 1 1))) (more (assign 7 (v 1 0) (borrow_exclusive 8 (v 2 1))) (last (number 9 0)))))), err (35, 7)) ∷
    []

-- How long variables live, and what is known after a choice, goes by scope.
abbrev by_scope : Cases
by_scope =
    -- `let v0=1; let v1=&v0; {let v2=3; v1=&v2; 0}; 0`
    (block 0 (more (declare 1 0 (number 2 1)) (more (declare 3 1 (borrow_shared 4 (v 0 0))) (more (block 5 (more (declare 6 2 (number 7 3)) (more (assign 8 (v 1 0) (borrow_shared 9 (v 2 0))) (last (number 10 0))))) (last (number 11 0))))), err (40, 8)) ∷
    -- `let v0=reading 0; let v1=1; let v2=2; let v3=&mut v1; let v4=3; let v5=&mut v4; let v6=&mut v5; choice v0 {v6=&mut v3; 1} {v3=&mut v2; 1}; copy v2; copy **v6`
    (block 0 (more (declare 1 0 (reading 2 0)) (more (declare 3 1 (number 4 1)) (more (declare 5 2 (number 6 2)) (more (declare 7 3 (borrow_exclusive 8 (v 1 0))) (more (declare 9 4 (number 10 3)) (more (declare 11 5 (borrow_exclusive 12 (v 4 0))) (more (declare 13 6 (borrow_exclusive 14 (v 5 0))) (more (choice 15 (v 0 0) 16 (more (assign 17 (v 6 0) (borrow_exclusive 18 (v 3 0))) (last (number 19 1))) 20 (more (assign 21 (v 3 0) (borrow_exclusive 22 (v 2 0))) (last (number 23 1)))) (more (copy 24 (v 2 0)) (last (copy 25 (v 6 2)))))))))))), err (34, 24)) ∷
    []

pub scripts_judged : Hold ended × Hold barring × Hold naming × Hold acting × Hold assigning × Hold choosing × Hold holding × Hold circles × Hold ended_holding × Hold new_state × Hold by_scope
unfolding
    judge_script judge need ◌>>=◌
    Links.leading_boxes Links.max_links Links.no_shared Links.last_shared_with Links.last_shared Links.is_number Links.copies Links.same_link Links.same_links
    Places.same_place Places.before Places.member Places.insert Places.unite Places.every Places.some_of Places.only Places.rooted
    Environment.borrow_end Environment.update Environment.write Environment.is_free Environment.level_of Environment.borrow_of Environment.borrows_at Environment.lives_at Environment.leave_slot Environment.leave Environment.holding
    Follow.past Follow.onward Follow.on_met Follow.meet_all Follow.follow Follow.own_link Follow.own_path Follow.whole_slot Follow.whole_there Follow.value_whole
    Measures.size Uses.finishing Uses.names Uses.named_later
    Bars.borrows_any Bars.borrows_exclusive Bars.held_by Bars.held Bars.reachable Bars.in_use
    Choice.carried Choice.earlier Choice.joined Choice.agreeing
    Rules.in_scope Rules.reached Rules.valued Rules.judge_place Rules.judge_readable Rules.judge_copy Rules.judge_move Rules.recorded_places Rules.judge_shared Rules.judge_exclusive Rules.judge_box Rules.judge_let Rules.judge_write Rules.judge_assign Rules.judge_number Rules.judge_below Rules.judge_block_end Rules.judge_choice
scripts_judged = (refl, refl, refl, refl, refl, refl, refl, refl, refl, refl, refl)
