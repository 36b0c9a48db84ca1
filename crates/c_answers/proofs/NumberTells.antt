-- A number of 0 in C's form says that there is an answer: every refusal and every fault has a number from 1 on.
use Prim.Native.Nat.{ℕ, ◌≤◌}
use native.Mathlib.Omega.{arith}
use mathlib.Core.Path.{◌≡◌, refl, ap}
use mathlib.Core.Logic.{◌⊎◌, ⊎_elim}
use mathlib.Core.List.{List}
use lib.Dec.{T, leb, leb→le}
use lib.IntN.{ℤ}
use Rattle.syntax.specs.Result.{Result, ok, err, Refusal}
use Rattle.syntax.specs.Limits.{Limits}
use Rattle.syntax.specs.Script.{Term, Whole}
use Rattle.syntax.specs.Reader.{decode_in, decode}
use Rattle.syntax.specs.Answers.{Answered, lengths_fit, parsed_into, on_fit, read_of, rows_tree, judged_of, given_whole, length_of, writable, written_into, written_of}
use Rattle.statics.specs.Judge.{judge_script}
use Rattle.ownership.specs.Answers.{check_of}
use Rattle.dynamics.specs.Store.{State, Ran}
use Rattle.dynamics.specs.Readings.{bits_of}
use Rattle.dynamics.specs.Answers as unchecked
use Rattle.dynamics.specs.Answers.{run_fits, runnable, ran_into, run_into, unchecked_of}
use Rattle.syntax.proofs.NumberRanges.{Only, fine, wider, steps}
use Rattle.syntax.proofs.FormNumbers.{parse_only, decode_only}
use Rattle.safety.proofs.RefusalNumbers.{script_only}
use Rattle.safety.proofs.FaultNumbers.{Faults, script_faults}
use Rattle.room.specs.Running as run
use Rattle.room.specs.Calling as call
use Rattle.c_answers.specs.declared.answers.Run.{Run}
use Rattle.c_answers.specs.declared.answers.Call.{Call}
use Rattle.c_answers.specs.Answers.{script_in, terms_in, bytes_in, ran_in, unchecked_in, called_in}
use Rattle.c_answers.specs.Numbers.{NumberTells}

-- Every refusal's number is from 1 to 74.
abbrev Nonzero : {A : Type 0} → Result Refusal A → Type 0
Nonzero m = Only 1 74 m

-- Where a refusal would have the number 0 there is none.
answered : {A : Type 0} (m : Result Refusal A) → Nonzero m → ((e : Refusal) → m ≡ err e → e.0 ≡ 0) → (a : A) × (m ≡ ok a)
answered (ok a) h z = (a, refl)
answered (err e) h z = absurd (omega (arith, (h.number_in e refl).0, z e refl))

-- A refusal is the same in an answer of another kind.
again : {A B : Type 0} {e : Refusal} → Nonzero {A = A} (err e) → Nonzero {A = B} (err e)
again h = record { number_in = λ x q. h.number_in x cc }

-- ---- reading, judging and writing

decoded : (l : Limits) (v : ℕ) (rows : List ℕ) → Nonzero (decode_in l v rows)
decoded l v rows = wider (decode_only l v rows) tt tt

judged : (nv : ℕ) (t : Term) → Nonzero (judge_script nv t)
judged nv t = wider (script_only nv t) tt tt

ruleset of_rows = (steps, decoded, judged)

module _ (l : Limits) where
  fitted : {A : Type 0} (m : Result Refusal (Unit {0})) (memory : List ℕ) (made : Answered A) → Nonzero m → Nonzero made.0 → Nonzero (on_fit m memory made).0
  unfolding on_fit
  fitted (ok u) memory made h k = k
  fitted (err e) memory made h k = again h

  parsed : (m : Result Refusal Whole) → Nonzero m → Nonzero (parsed_into l m).0
  unfolding parsed_into
  parsed (ok s) h = fine _
  parsed (err e) h = again h

  read_nonzero : (n : ℕ) (script rows : List ℕ) → Nonzero (read_of l n script rows).0
  unfolding read_of lengths_fit
  read_nonzero n script rows = fitted _ rows _ (search of_rows) (parsed _ (wider (parse_only l n script) tt tt))

  tree_nonzero : (rows : List ℕ) → Nonzero (rows_tree l rows)
  unfolding rows_tree decode
  tree_nonzero rows = search of_rows

  written : (output : List ℕ) (m : Result Refusal Whole) → Nonzero m → Nonzero (written_into output m).0
  unfolding written_into
  written output (ok s) h = fine _
  written output (err e) h = again h

  given_nonzero : (v : ℕ) (rows : List ℕ) → Nonzero (given_whole l v rows)
  unfolding given_whole
  given_nonzero v rows = search of_rows depth 8

  length_nonzero : (v : ℕ) (rows : List ℕ) → Nonzero (length_of l v rows)
  unfolding length_of
  length_nonzero v rows = search (of_rows, given_nonzero)

  write_nonzero : (v : ℕ) (rows output : List ℕ) → Nonzero (written_of l v rows output).0
  unfolding written_of writable
  write_nonzero v rows output = written output _ (search (of_rows, given_nonzero))

  judge_nonzero : (rows : List ℕ) → Nonzero (judged_of l rows)
  unfolding judged_of
  judge_nonzero rows = search (of_rows, tree_nonzero)

  check_nonzero : (rows : List ℕ) → Nonzero (check_of l rows)
  unfolding check_of
  check_nonzero rows = search (of_rows, tree_nonzero)

  -- ---- runs

  module _ (readings : List ℤ) (store : List ℕ) where
    ended : (m : Ran (State × ℕ)) → Faults m → (unchecked_in (ran_into l m).0).number ≡ 0 → (a : ℤ) × (c : ℕ) × ((ran_into l m).0 ≡ unchecked.answered a c)
    unfolding ran_into unchecked_in
    ended (ok e) h z = (_, _, refl)
    ended (err f) h z = absurd (omega (arith, (h.number_in f refl).0, z))

    begun : (m : Result Refusal Term) → Nonzero m → (unchecked_in (run_into l readings store m).0).number ≡ 0
        → (a : ℤ) × (c : ℕ) × ((run_into l readings store m).0 ≡ unchecked.answered a c)
    unfolding run_into unchecked_in
    begun (ok t) h z = ended _ (script_faults (bits_of readings) t _) z
    begun (err e) h z = absurd (omega (arith, (h.number_in e refl).0, z))

    run_nonzero : (rows : List ℕ) → Nonzero (runnable l rows readings store)
    unfolding runnable run_fits decode
    run_nonzero rows = search of_rows depth 8

-- The numbers of a run's and of a call's refusals are those that safety tells.
positive : {n a b : ℕ} → T (leb 1 a) → T (leb 1 b) → (n ≡ 74) ⊎ ((a ≤ n) × (n ≤ 4)) ⊎ ((b ≤ n) × (n ≤ 19)) ⊎ ((30 ≤ n) × (n ≤ 43)) → 1 ≤ n
positive {a = a} {b = b} h k =
    ⊎_elim (λ e. omega (arith, e)) (⊎_elim (λ x. omega (arith, x.0, leb→le 1 a h)) (⊎_elim (λ x. omega (arith, x.0, leb→le 1 b k)) (λ x. omega (arith, x.0))))

module _ (l : Limits) (readings : List ℤ) (before after : List ℕ) where
  ran : (rows : List ℕ) (r : Run) (m : run.RunAnswer) → r ≡ ran_in m → run.SafeRun l rows readings m before after → r.number ≡ 0
      → (a : ℤ) × (c : ℕ) × (r ≡ ran_in (run.answered a c)) × run.SafeRun l rows readings (run.answered a c) before after
  unfolding ran_in
  ran rows r (run.answered a c) q s z = (a, c, q, s)
  ran rows r (run.refused n p) q s z =
      let x : r.number ≡ n = ap (λ (y : Run). y.number) q in
      absurd (omega (arith, positive tt tt (s.numbers n p refl), x, z))

  called : (script rows : List ℕ) (r : Call) (m : call.CallAnswer) → r ≡ called_in m → call.SafeCall l script readings rows m before after → r.number ≡ 0
      → (n : ℕ) × (a : ℤ) × (c : ℕ) × (r ≡ called_in (call.called n a c)) × call.SafeCall l script readings rows (call.called n a c) before after
  unfolding called_in
  called script rows r (call.called n a c) q s z = (n, a, c, q, s)
  called script rows r (call.refused n p) q s z =
      let x : r.number ≡ n = ap (λ (y : Call). y.number) q in
      absurd (omega (arith, positive tt tt (s.numbers n p refl), x, z))

pub number_tells : (l : Limits) → NumberTells l
unfolding script_in terms_in bytes_in unchecked_of
number_tells l = record {
  reads = λ n script rows h. answered _ (read_nonzero l n script rows) (λ e q. rw q at h);
  judges = λ rows h. answered _ (judge_nonzero l rows) (λ e q. rw q at h);
  tells_length = λ v rows h. answered _ (length_nonzero l v rows) (λ e q. rw q at h);
  writes = λ v rows output h. answered _ (write_nonzero l v rows output) (λ e q. rw q at h);
  checks = λ rows h. answered _ (check_nonzero l rows) (λ e q. rw q at h);
  runs = λ rows readings r before after s h. ran l readings before after rows r s.0 s.1 s.2 h;
  runs_unchecked = λ rows readings store h. begun l readings store _ (run_nonzero l readings store rows) h;
  calls = λ script readings rows r before after s h. called l readings before after script rows r s.0 s.1 s.2 h;
}
