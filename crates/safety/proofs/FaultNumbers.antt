-- The numbers of faults: a run comes to none but 60 to 63 (LANGUAGE 5.6).
use Prim.Native.Nat.{ℕ, zero, suc}
use mathlib.Core.Bool.{Bool, true, false}
use mathlib.Core.List.{List, [], ◌∷◌}
use lib.Dec.{eqb}
use Rattle.syntax.specs.Result.{pick}
use Rattle.syntax.specs.Script.{Place, Term, number, reading, copy, move, borrow_shared, borrow_exclusive, box, declare, assign, below, block, choice, sum, Terms, last, more}
use Rattle.dynamics.specs.Values.{Location, Value, empty, num, owner, reference, Row, closed, given_back, open_with}
use Rattle.dynamics.specs.Store.{Store, State, Ran}
use Rattle.dynamics.specs.Locate.{followed, locate_from, locate, filled, number_in}
use Rattle.dynamics.specs.Drop.{Dropping, give_back, drop_step, drop_along, drop_value, close_all}
use Rattle.dynamics.specs.Run.{Outcome, run_copy, run_move, run_borrow, run_number, run_pair, run_let, run_assign, run_box, run_block_end, run, runs, run_script}
use Rattle.syntax.proofs.NumberRanges.{Numbered, fine, onward, steps}

-- If there is a fault, its number is from 60 to 63.
abbrev pub Faults : {A : Type 0} → Ran A → Type 0
Faults m = Numbered (λ f. f.number) 60 63 m

-- ---- locating, reading and dropping

followed_faults : (s : State) (i : ℕ) (r : Row) → Faults (followed s i r)
unfolding followed
followed_faults s i closed = search steps
followed_faults s i given_back = search steps
followed_faults s i (open_with empty) = search steps
followed_faults s i (open_with (num n)) = search steps
followed_faults s i (open_with (owner c)) = search steps
followed_faults s i (open_with (reference l)) = search steps

locate_from_law : (s : State) (i : ℕ) (l : Location) (r : ℕ) → Faults (locate_from s i l r)
unfolding locate_from
locate_from_law s i l zero = search steps
locate_from_law s i l (suc r) = onward (followed_faults s i _) (λ m. locate_from_law s i m r)

locate_faults : (s : State) (i : ℕ) (p : Place) → Faults (locate s i p)
unfolding locate
locate_faults s i p = locate_from_law s i _ _

filled_faults : (s : State) (i : ℕ) (r : Row) → Faults (filled s i r)
unfolding filled
filled_faults s i closed = search steps
filled_faults s i given_back = search steps
filled_faults s i (open_with empty) = search steps
filled_faults s i (open_with (num n)) = search steps
filled_faults s i (open_with (owner c)) = search steps
filled_faults s i (open_with (reference l)) = search steps

number_faults : (s : State) (i : ℕ) (v : Value) → Faults (number_in s i v)
unfolding number_in
number_faults s i empty = search steps
number_faults s i (num n) = search steps
number_faults s i (owner c) = search steps
number_faults s i (reference l) = search steps

give_back_law : (i : ℕ) (s : State) (c : ℕ) (r : Row) (onwards : Dropping) → ((s : State) (v : Value) → Faults (onwards s v)) → Faults (give_back i s c r onwards)
unfolding give_back
give_back_law i s c closed onwards h = search steps
give_back_law i s c given_back onwards h = search steps
give_back_law i s c (open_with v) onwards h = h _ v

drop_step_law : (i : ℕ) (onwards : Dropping) → ((s : State) (v : Value) → Faults (onwards s v)) → (s : State) (v : Value) → Faults (drop_step i onwards s v)
unfolding drop_step
drop_step_law i onwards h s empty = search steps
drop_step_law i onwards h s (num n) = search steps
drop_step_law i onwards h s (owner c) = give_back_law i s c _ onwards h
drop_step_law i onwards h s (reference l) = search steps

drop_along_law : (n i : ℕ) (s : State) (v : Value) → Faults (drop_along n i s v)
unfolding drop_along
drop_along_law zero i = drop_step_law i _ (λ s v. fine s)
drop_along_law (suc n) i = drop_step_law i _ (drop_along_law n i)

drop_faults : (i : ℕ) (s : State) (v : Value) → Faults (drop_value i s v)
unfolding drop_value
drop_faults i s v = drop_along_law _ i s v

close_faults : (i : ℕ) (s : State) (xs : List ℕ) → Faults (close_all i s xs)
unfolding close_all
close_faults i s [] = search steps
close_faults i s (x ∷ xs) = onward (drop_faults i _ _) (λ s'. close_faults i s' xs)

ruleset of-rules = (steps, locate_faults, filled_faults, number_faults, drop_faults, close_faults)

-- ---- terms, blocks and the whole run

number_at : (s : State) (i : ℕ) (p : Place) → Faults (run_number s i p)
unfolding run_number
number_at s i p = search of-rules

pair_faults : (f : ℕ → ℕ → ℕ) (s : State) (i : ℕ) (p q : Place) → Faults (run_pair f s i p q)
unfolding run_pair
pair_faults f s i p q = search (of-rules, number_at)

end_faults : (i : ℕ) (around : List ℕ) (o : Outcome) → Faults (run_block_end i around o)
unfolding run_block_end
end_faults i around o = search of-rules

either_faults : {A : Type 0} (t : Bool) {m n : Ran A} → Faults m → Faults n → Faults (pick t m n)
either_faults true h k = h
either_faults false h k = k

module _ (readings : ℕ → ℕ) where
  mutual
    unfolding run run_copy run_move run_borrow run_let run_assign run_box

    run_faults : (t : Term) (s : State) → Faults (run readings t s)
    run_faults (number i n) s = search steps
    run_faults (reading i n) s = search steps
    run_faults (copy i p) s = search of-rules
    run_faults (move i p) s = search of-rules
    run_faults (borrow_shared i p) s = search of-rules
    run_faults (borrow_exclusive i p) s = search of-rules
    run_faults (box i t) s = onward (run_faults t s) (λ o. search steps)
    run_faults (declare i x t) s = onward (run_faults t s) (λ o. search steps)
    run_faults (assign i p t) s = onward (run_faults t s) (λ o. search of-rules)
    run_faults (below i p q) s = pair_faults _ s i p q
    run_faults (sum i p q) s = pair_faults _ s i p q
    run_faults (block i ts) s = onward (runs_faults ts i _) (λ o. end_faults i _ o)
    run_faults (choice i p j us k vs) s =
        onward (number_at s i p) (λ n.
        either_faults (eqb n 0)
        (onward (runs_faults vs k _) (λ o. end_faults k _ o))
        (onward (runs_faults us j _) (λ o. end_faults j _ o)))

    runs_faults : (ts : Terms) (i : ℕ) (s : State) → Faults (runs readings ts i s)
    runs_faults (last t) i s = run_faults t s
    runs_faults (more t ts) i s = onward (run_faults t s) (λ o. onward (drop_faults i _ _) (λ s'. runs_faults ts i s'))

  -- The numbers of the faults that a run can come to (LANGUAGE 5.6): 60 to 63.
  pub script_faults : (t : Term) (earlier : Store) → Faults (run_script readings t earlier)
  unfolding run_script
  script_faults t earlier = onward (run_faults t _) (λ o. search of-rules)
