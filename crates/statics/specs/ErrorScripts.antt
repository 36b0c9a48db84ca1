-- The definitions tried on scripts that likely errors would misjudge.
-- Of an assign (LANGUAGE 3.25, 3.26):
--   moving: its place judged before its right side;
--   outliving: lifetimes compared with the variable named and not with the one finally written;
--   overwriting: a borrow held on after it is overwritten.
-- Of a choice (3.31):
--   reaching: a path judged at the named place only;
--   landing: a write that may land in either of two taken for one that does;
--   second-moves: the state of one branch alone kept;
--   taking: the numbers of the first branch free again.
-- Of a shared borrow (3.21):
--   last-link: the first shared link that is passed taken for the last;
--   remaining: the follows that remain forgotten;
--   through-exclusive: exclusive links, or exclusive borrows, treated likewise;
--   beyond-shared: the place recorded to which the borrowed one leads in the end;
--   every-place, every-holder: one of several places recorded, or those of one of several variables;
--   named-barred, recorded-held: 34 judged of the recorded root, in place of the named one or besides.
-- Those about last uses are in LastUseScripts.
use Rattle.std.specs.Prelude.{ℕ, ◌≡◌, refl}
use Rattle.syntax.specs.Result.{ok, err, need, ◌>>=◌}
use Rattle.syntax.specs.Script.{Place, Term, Terms, number, reading, copy, move, borrow_shared, borrow_exclusive, box, declare, assign, block, choice, last, more}
use Rattle.statics.specs.Links
use Rattle.statics.specs.Places
use Rattle.statics.specs.Environment
use Rattle.statics.specs.Follow
use Rattle.syntax.specs.Measures
use Rattle.statics.specs.Uses
use Rattle.statics.specs.Bars
use Rattle.statics.specs.Choice
use Rattle.statics.specs.Rules
use Rattle.statics.specs.Judge.{judge, judge_script}

abbrev v : ℕ → ℕ → Place
v x follows = record { root = x; follows = follows }

-- `let v0=box 1; *v0={let v1=move v0; 2}; 0`: the block on the right moves the box away.
abbrev moving : Term
moving = block 0 (more (declare 1 0 (box 2 (number 3 1))) (more (assign 4 (v 0 1) (block 5 (more (declare 6 1 (move 7 (v 0 0))) (last (number 8 2))))) (last (number 9 0))))

-- `let v0=1; let v1=&v0; {let v2=&mut v1; let v3=2; *v2=&v3; 0}; 0`: v1 is written, and outlives v3.
abbrev outliving : Term
outliving =
    block 0 (more (declare 1 0 (number 2 1)) (more (declare 3 1 (borrow_shared 4 (v 0 0)))
    (more (block 5 (more (declare 6 2 (borrow_exclusive 7 (v 1 0))) (more (declare 8 3 (number 9 2)) (more (assign 10 (v 2 1) (borrow_shared 11 (v 3 0))) (last (number 12 0))))))
    (last (number 13 0)))))

-- E6 (LANGUAGE 8.4), `let v0=1; let v1=2; let v2=&v0; v2=&v1; v0=9; copy *v2`: v2 holds v0 no longer.
abbrev overwriting : Term
overwriting =
    block 0 (more (declare 1 0 (number 2 1)) (more (declare 3 1 (number 4 2)) (more (declare 5 2 (borrow_shared 6 (v 0 0)))
    (more (assign 7 (v 2 0) (borrow_shared 8 (v 1 0))) (more (assign 9 (v 0 0) (number 10 9)) (last (copy 11 (v 2 1))))))))

-- `let v0=reading 0; ..`
abbrev after_reading : Terms → Term
after_reading ts = block 0 (more (declare 1 0 (reading 2 0)) ts)

-- `let v1=box 1; let v2=box 2; let v3=&mut *v1; choice v0 {v3=&mut *v2; move v1; 1} {1}; *v3=5; 1`: v3 may borrow v1, which is moved away.
abbrev reaching : Term
reaching =
    after_reading (more (declare 3 1 (box 4 (number 5 1))) (more (declare 6 2 (box 7 (number 8 2))) (more (declare 9 3 (borrow_exclusive 10 (v 1 1)))
    (more (choice 11 (v 0 0) 12 (more (assign 13 (v 3 0) (borrow_exclusive 14 (v 2 1))) (more (move 15 (v 1 0)) (last (number 16 1)))) 17 (last (number 18 1)))
    (more (assign 19 (v 3 1) (number 20 5)) (last (number 21 1)))))))

-- `let v1=box 1; let v2=box 2; let v3=&mut v1; choice v0 {v3=&mut v2; move v1; 1} {1}; *v3=box 3; move v3; 0`: the write may have landed in v2, so that v1, which v3 may
-- borrow, is still moved away.
abbrev landing : Term
landing =
    after_reading (more (declare 3 1 (box 4 (number 5 1))) (more (declare 6 2 (box 7 (number 8 2))) (more (declare 9 3 (borrow_exclusive 10 (v 1 0)))
    (more (choice 11 (v 0 0) 12 (more (assign 13 (v 3 0) (borrow_exclusive 14 (v 2 0))) (more (move 15 (v 1 0)) (last (number 16 1)))) 17 (last (number 18 1)))
    (more (assign 19 (v 3 1) (box 20 (number 21 3))) (more (move 22 (v 3 0)) (last (number 23 0))))))))

-- `let v1=box 1; choice v0 {0} {move v1; 0}; copy *v1`: the second branch moves v1 away.
abbrev second_moves : Term
second_moves =
    after_reading (more (declare 3 1 (box 4 (number 5 1)))
    (more (choice 6 (v 0 0) 7 (last (number 8 0)) 9 (more (move 10 (v 1 0)) (last (number 11 0)))) (last (copy 12 (v 1 1)))))

-- `choice v0 {let v1=1; 0} {let v1=2; 0}`: the number stays taken.
abbrev taking : Term
taking = after_reading (last (choice 3 (v 0 0) 4 (more (declare 5 1 (number 6 1)) (last (number 7 0))) 8 (more (declare 9 1 (number 10 2)) (last (number 11 0)))))

-- `let v0=1; ..`
abbrev after_one : Terms → Term
after_one ts = block 0 (more (declare 1 0 (number 2 1)) ts)

-- `let v1=&v0; v1={let v2=&v0; let v3=&v2; &**v3}; copy *v1`: of the two shared links that are passed the second borrows v0, the first v2.
abbrev last_link : Term
last_link =
    after_one (more (declare 3 1 (borrow_shared 4 (v 0 0)))
    (more (assign 5 (v 1 0) (block 6 (more (declare 7 2 (borrow_shared 8 (v 0 0))) (more (declare 9 3 (borrow_shared 10 (v 2 0))) (last (borrow_shared 11 (v 3 2)))))))
    (last (copy 12 (v 1 1)))))

-- `{let v1=&v0; let v2=&mut v1; let v3=&v2; let v4=&**v3; copy *v4}; 0`: v4 borrows `*v2`, so that the copy borrows v0; without the follow v1 (40).
abbrev remaining : Term
remaining =
    after_one (more (block 3 (more (declare 4 1 (borrow_shared 5 (v 0 0))) (more (declare 6 2 (borrow_exclusive 7 (v 1 0))) (more (declare 8 3 (borrow_shared 9 (v 2 0)))
    (more (declare 10 4 (borrow_shared 11 (v 3 2))) (last (copy 12 (v 4 1))))))))
    (last (number 13 0)))

-- `{let v1=&mut v0; &*v1}; 0`: the link that is passed is exclusive, so that v1 is recorded and not v0; and the same with `&mut *v1`.
abbrev through_exclusive : (ℕ → Place → Term) → Term
through_exclusive borrow = after_one (more (block 3 (more (declare 4 1 (borrow_exclusive 5 (v 0 0))) (last (borrow 6 (v 1 1))))) (last (number 7 0)))

-- `{let v1=&mut v0; let v2=&v1; &**v2}; 0`: the last shared link borrows v1, so that `*v1` is recorded, and not v0, to which it leads.
abbrev beyond_shared : Term
beyond_shared = after_one (more (block 3 (more (declare 4 1 (borrow_exclusive 5 (v 0 0))) (more (declare 6 2 (borrow_shared 7 (v 1 0))) (last (borrow_shared 8 (v 2 2)))))) (last (number 9 0)))

-- `let v0=reading 0; let v1=1; let v2=2; ..`
abbrev after_two : Terms → Term
after_two ts = after_reading (more (declare 3 1 (number 4 1)) (more (declare 5 2 (number 6 2)) ts))

-- `let v3=choice v0 {&v1} {&v2}; let v4=&*v3; move v3; v2=7; copy *v4`, or with v1 for v2 in the assign: v4 borrows v1 and v2.
abbrev every_place : ℕ → Term
every_place x =
    after_two (more (declare 7 3 (choice 8 (v 0 0) 9 (last (borrow_shared 10 (v 1 0))) 11 (last (borrow_shared 12 (v 2 0)))))
    (more (declare 13 4 (borrow_shared 14 (v 3 1))) (more (move 15 (v 3 0)) (more (assign 16 (v x 0) (number 17 7)) (last (copy 18 (v 4 1)))))))

-- `let v3=&v1; let v4=&v2; let v5=choice v0 {&v3} {&v4}; let v6=&**v5; move v5; move v3; move v4; v2=7; copy *v6`, or with v1: the last link may be that of v3 or of v4.
abbrev every_holder : ℕ → Term
every_holder x =
    after_two (more (declare 7 3 (borrow_shared 8 (v 1 0))) (more (declare 9 4 (borrow_shared 10 (v 2 0)))
    (more (declare 11 5 (choice 12 (v 0 0) 13 (last (borrow_shared 14 (v 3 0))) 15 (last (borrow_shared 16 (v 4 0)))))
    (more (declare 17 6 (borrow_shared 18 (v 5 2)))
    (more (move 19 (v 5 0)) (more (move 20 (v 3 0)) (more (move 21 (v 4 0)) (more (assign 22 (v x 0) (number 23 7)) (last (copy 24 (v 6 1)))))))))))

-- `let v1=&v0; let v2=&mut v1; &*v1; copy **v2`: v2 holds the named root v1 exclusively; no variable holds v0 so, which would be recorded.
abbrev named_barred : Term
named_barred = after_one (more (declare 3 1 (borrow_shared 4 (v 0 0))) (more (declare 5 2 (borrow_exclusive 6 (v 1 0))) (more (borrow_shared 7 (v 1 1)) (last (copy 8 (v 2 2))))))

-- `let v3=3; let v4=&v2; let v5=&mut v3; choice v0 {v4=&v1; 1} {v5=&mut v1; 1}; &*v4; copy *v5`: v5 may hold v1 exclusively, which is recorded, and no variable holds the named root v4.
abbrev recorded_held : Term
recorded_held =
    after_two (more (declare 7 3 (number 8 3)) (more (declare 9 4 (borrow_shared 10 (v 2 0))) (more (declare 11 5 (borrow_exclusive 12 (v 3 0)))
    (more (choice 13 (v 0 0) 14 (more (assign 15 (v 4 0) (borrow_shared 16 (v 1 0))) (last (number 17 1))) 18 (more (assign 19 (v 5 0) (borrow_exclusive 20 (v 1 0))) (last (number 21 1))))
    (more (borrow_shared 22 (v 4 1)) (last (copy 23 (v 5 1))))))))

-- With seven variables; under every larger set it is the same (LANGUAGE 7.7).
pub scripts_judged :
    (judge_script 7 moving ≡ err (33, 4))
    × (judge_script 7 outliving ≡ err (40, 10))
    × (judge_script 7 overwriting ≡ ok tt)
    × (judge_script 7 reaching ≡ err (33, 19))
    × (judge_script 7 landing ≡ err (33, 22))
    × (judge_script 7 second_moves ≡ err (33, 12))
    × (judge_script 7 taking ≡ err (30, 9))
    × (judge_script 7 last_link ≡ ok tt)
    × (judge_script 7 remaining ≡ ok tt)
    × (judge_script 7 (through_exclusive borrow_shared) ≡ err (40, 3))
    × (judge_script 7 (through_exclusive borrow_exclusive) ≡ err (40, 3))
    × (judge_script 7 beyond_shared ≡ err (40, 3))
    × (judge_script 7 (every_place 1) ≡ err (35, 16))
    × (judge_script 7 (every_place 2) ≡ err (35, 16))
    × (judge_script 7 (every_holder 1) ≡ err (35, 22))
    × (judge_script 7 (every_holder 2) ≡ err (35, 22))
    × (judge_script 7 named_barred ≡ err (34, 7))
    × (judge_script 7 recorded_held ≡ ok tt)
unfolding
    judge_script judge need ◌>>=◌
    Links.leading_boxes Links.max_links Links.no_shared Links.last_shared_with Links.last_shared Links.is_number Links.copies Links.same_link Links.same_links
    Places.same_place Places.before Places.member Places.insert Places.unite Places.every Places.some_of Places.only Places.rooted
    Environment.borrow_end Environment.update Environment.write Environment.is_free Environment.level_of Environment.borrow_of Environment.borrows_at Environment.lives_at Environment.leave_slot Environment.leave Environment.holding
    Follow.past Follow.onward Follow.on_met Follow.meet_all Follow.follow Follow.own_link Follow.own_path Follow.whole_slot Follow.whole_there Follow.value_whole
    Measures.size Uses.finishing Uses.names Uses.named_later
    Bars.borrows_any Bars.borrows_exclusive Bars.held_by Bars.held Bars.reachable Bars.in_use
    Choice.carried Choice.earlier Choice.joined Choice.agreeing
    Rules.in_scope Rules.reached Rules.valued Rules.judge_place Rules.judge_readable Rules.judge_copy Rules.judge_move Rules.recorded_places Rules.judge_shared Rules.judge_exclusive Rules.judge_box Rules.judge_let Rules.judge_write Rules.judge_assign Rules.judge_number Rules.judge_block_end Rules.judge_choice
scripts_judged = (refl, refl, refl, refl, refl, refl, refl, refl, refl, refl, refl, refl, refl, refl, refl, refl, refl, refl)
