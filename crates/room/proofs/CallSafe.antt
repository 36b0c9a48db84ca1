-- The safety of a call under any set, from the equation that its answer meets: that of the run of the script that was read.
use Prim.Native.Nat.{ℕ}
use native.Mathlib.Omega.{arith}
use mathlib.Core.Path.{◌≡◌, refl, sym, ap, ◌∙◌, subst}
use mathlib.Core.List.{List}
use lib.IntN.{ℤ}
use mir.Syntax.{w32}
use mir.Val.{to_z}
use Rattle.syntax.specs.Result.{Result, ok, err, Refusal, ◌>>=◌}
use Rattle.syntax.specs.Limits.{Limits, row_numbers}
use Rattle.syntax.specs.Layout.{rows_of, zeros}
use Rattle.syntax.specs.Script.{Term, Whole}
use Rattle.syntax.specs.Kinds.{newest}
use Rattle.syntax.specs.Reader.{parse}
use Rattle.syntax.specs.Within.{Under}
use Rattle.syntax.specs.Measures.{size}
use Rattle.syntax.specs.Answers.{Told, Answered, lengths_fit, parsed_into, on_fit, read_of}
use Rattle.syntax.proofs.Answers.{then}
use Rattle.syntax.proofs.RoundTrip.{parsed}
use Rattle.statics.specs.Judge.{judge_script}
use Rattle.dynamics.specs.Values.{closed}
use Rattle.dynamics.specs.Store.{Store}
use Rattle.dynamics.specs.Answers.{run_fits}
use Rattle.dynamics.specs.Readings.{bits_of}
use Rattle.machine.proofs.FitLaws.{Fit}
use Rattle.safety.specs.Safety.{Safe, tidy_store}
use Rattle.safety.proofs.Demand3.{demand_three}
use Rattle.room.specs.Running.{RunMade, run_of}
use Rattle.room.specs.Running as running
use Rattle.room.specs.Calling.{CallAnswer, called, refused, CallMade, call_fits, with_terms, run_called, read_called, fit_called, call_of, read_first, CallNumber, SafeCall}
use Rattle.room.proofs.Numbers.{call_number}
use Rattle.room.proofs.TreeRows.{checks_tree, run_safe}
use Rattle.room.proofs.RunLaws.{check_refuses}
use Rattle.room.proofs.CallLaws.{fits_say}

pub called_refused : {A : Type 0} {n c m p : ℕ} {a : ℤ} → called n a c ≡ refused m p → A
called_refused e = let z : ◌≡◌ {A = ℕ} 0 1 = cc in absurd (omega arith)

module _ (l : Limits) (script : List ℕ) (readings : List ℤ) (rows store : List ℕ) (u : Under 256 script) where
  -- What is shown of each answer, with the rows and the store that come with it.
  abbrev Left : CallMade → Type 0
  Left m = SafeCall l script readings rows m.0 store m.1.1

  accepted_safe : (w : Whole) → parse l newest script ≡ ok w → judge_script l.variables w.term ≡ ok tt → (earlier : Store) → Safe l w.term (bits_of readings) earlier
  accepted_safe w e j earlier = demand_three l w.term (parsed l newest script w u e).1.term j (bits_of readings) earlier

  unchanged : (e : Refusal) (after : List ℕ) → read_first l script readings rows store ≡ err e → Left (refused e.0 e.1, (after, store))
  unchanged e after h = record {
    safe = accepted_safe;
    answers = λ m a c q. called_refused (sym q);
    tidy = λ m a c q. called_refused (sym q);
    refuses = λ n p q.
        let x : e.0 ≡ n = cc in
        let y : e.1 ≡ p = cc in
        h ∙ ap err (λ k. (x k, y k));
    numbers = λ n p q. let x : e.0 ≡ n = cc in subst CallNumber x (call_number l readings rows store e script h);
    untouched = λ n p q. refl;
  }

  ran : (t : Term) (n : ℕ) (after : List ℕ) → read_first l script readings rows store ≡ ok t → n ≡ size t → (s : Safe l t (bits_of readings) (λ x. closed))
      → Left (run_called n after (running.answered (to_z w32 s.answer) s.final.taken, tidy_store l s.final.taken))
  unfolding with_terms
  ran t n after h count s = record {
    safe = accepted_safe;
    answers = λ m a c k.
        let p : m ≡ n = cc in
        let y : a ≡ to_z w32 s.answer = cc in
        let o : c ≡ s.final.taken = cc in
        (t, h, p ∙ count, s, y, o);
    tidy = λ m a c k. let o : s.final.taken ≡ c = cc in ap (tidy_store l) o;
    refuses = λ n p k. called_refused k;
    numbers = λ n p k. called_refused k;
    untouched = λ m p k. called_refused k;
  }

  -- Set and lengths fit.
  module _ (fits : call_fits l script readings rows store ≡ ok tt) where
    long : (x : Unit {0}) × (lengths_fit l script rows ≡ ok x) × (run_fits l rows readings store ≡ ok tt)
    unfolding call_fits
    long = then (lengths_fit l script rows) (λ _. run_fits l rows readings store) tt fits

    f : Fit l rows readings store
    f = (fits_say l script readings rows store tt fits).1

    read_is : read_of l newest script rows ≡ parsed_into l (parse l newest script)
    unfolding read_of on_fit
    read_is = rw long.1

    -- The script was read.
    module _ (whole : Whole) (w : parse l newest script ≡ ok whole) where
      abbrev t : Term
      t = whole.term

      judged_left : (j : Result Refusal (Unit {0})) → judge_script l.variables t ≡ j → Left (run_called (size t) (rows_of l t) (run_of l (rows_of l t) readings store))
      unfolding read_first with_terms ◌>>=◌
      judged_left (ok v) j =
          let within = (parsed l newest script whole u w).1.term in
          let s = accepted_safe whole w j (λ x. closed) in
          let h : read_first l script readings rows store ≡ ok t = rw (fits, w, j) in
          subst (λ (x : RunMade). Left (run_called (size t) (rows_of l t) x)) (sym (run_safe l t f.ranges within readings store f.eight f.size s j)) (ran t (size t) (rows_of l t) h refl s)
      judged_left (err e) j =
          let within = (parsed l newest script whole u w).1.term in
          let h : read_first l script readings rows store ≡ err e = rw (fits, w, j) in
          subst (λ (x : RunMade). Left (run_called (size t) (rows_of l t) x))
          (sym (check_refuses l (rows_of l t) readings store f.eight f.size e (checks_tree l t f.ranges within ∙ rw j)))
          (unchanged e (rows_of l t) h)

    read_left : (p : Result Refusal Whole) → parse l newest script ≡ p → Left (read_called l readings store (parsed_into l p).0 (parsed_into l p).1)
    unfolding read_first read_called parsed_into ◌>>=◌
    read_left (ok x) w = judged_left x w (judge_script l.variables x.term) refl
    read_left (err e) w = let h : read_first l script readings rows store ≡ err e = rw (fits, w) in unchanged e (zeros (row_numbers l)) h

  left : Left (call_of l script readings rows store)
  unfolding call_of fit_called read_first ◌>>=◌
  left = fit (call_fits l script readings rows store) refl
    where
      fit : (f : Result Refusal (Unit {0})) → call_fits l script readings rows store ≡ f → Left (fit_called f rows store (read_called l readings store (read_of l newest script rows).0 (read_of l newest script rows).1))
      fit (ok x) h = subst (λ (r : Answered Told). Left (read_called l readings store r.0 r.1)) (sym (read_is h)) (read_left h (parse l newest script) refl)
      fit (err e) h = let k : read_first l script readings rows store ≡ err e = rw h in unchanged e rows k

  pub safe_call : (r : CallAnswer) (rows₁ store₁ : List ℕ) → (r, (rows₁, store₁)) ≡ call_of l script readings rows store → SafeCall l script readings rows r store store₁
  safe_call r rows₁ store₁ e = subst Left (sym e) left
