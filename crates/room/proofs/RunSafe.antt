-- The safety of a run that checks first, from the equation that its answer meets.
use Prim.Native.Nat.{ℕ}
use native.Mathlib.Omega.{arith}
use mathlib.Core.Path.{◌≡◌, refl, sym, ap, ◌∙◌, subst}
use mathlib.Core.List.{List}
use lib.IntN.{ℤ}
use lib.ListN.{length}
use borrow.Author.Tests.{eq-eqb}
use mir.Syntax.{w32}
use mir.Val.{to_z}
use Rattle.syntax.specs.Result.{Result, ok, err, Refusal, need, ◌>>=◌}
use Rattle.syntax.specs.Limits.{Limits, row_numbers, store_numbers}
use Rattle.syntax.specs.Script.{Term}
use Rattle.syntax.specs.Layout.{rows_of}
use Rattle.syntax.specs.Reader.{decode}
use Rattle.syntax.specs.Within.{Under, Within}
use Rattle.syntax.specs.Answers.{rows_tree}
use Rattle.syntax.proofs.Answers.{then}
use Rattle.reader.proofs.Promise.{tree_decoded}
use Rattle.syntax.proofs.RoundTrip.{decoded}
use Rattle.statics.specs.Judge.{judge_script}
use Rattle.dynamics.specs.Values.{closed}
use Rattle.dynamics.specs.Store.{Store}
use Rattle.dynamics.specs.Answers.{run_fits, runnable}
use Rattle.dynamics.specs.Readings.{bits_of}
use Rattle.machine.proofs.FitLaws.{fit_says}
use Rattle.safety.specs.Safety.{Safe, tidy_store}
use Rattle.safety.proofs.Demand3.{demand_three}
use Rattle.room.specs.Running.{RunAnswer, answered, refused, RunMade, checked_first, checked_into, run_of, RunNumber, SafeRun}
use Rattle.room.proofs.Numbers.{run_number_law}
use Rattle.room.proofs.TreeRows.{run_safe}

pub answered_refused : {A : Type 0} {c m p : ℕ} {a : ℤ} → answered a c ≡ refused m p → A
answered_refused e = let z : ◌≡◌ {A = ℕ} 0 1 = cc in absurd (omega arith)

module _ (l : Limits) (rows : List ℕ) (readings : List ℤ) (store : List ℕ) (u : Under 4294967296 rows) where
  -- What is shown of each answer, with the store that comes with it.
  abbrev Left : RunMade → Type 0
  Left m = SafeRun l rows readings m.0 store m.1

  in_rows : (t : Term) → rows_tree l rows ≡ ok t → (rows ≡ rows_of l t) × Within l t
  in_rows t w = let d = tree_decoded l rows t w in decoded l rows t u d.length d.decodes

  accepted_safe : (t : Term) → rows_tree l rows ≡ ok t → judge_script l.variables t ≡ ok tt → (earlier : Store) → Safe l t (bits_of readings) earlier
  accepted_safe t w j earlier = demand_three l t (in_rows t w).1 j (bits_of readings) earlier

  unchanged : (e : Refusal) → checked_first l rows readings store ≡ err e → Left (refused e.0 e.1, store)
  unchanged e h = record {
    safe = accepted_safe;
    answers = λ a c q. answered_refused (sym q);
    tidy = λ a c q. answered_refused (sym q);
    refuses = λ n p q.
        let x : e.0 ≡ n = cc in
        let y : e.1 ≡ p = cc in
        h ∙ ap err (λ k. (x k, y k));
    numbers = λ n p q. let x : e.0 ≡ n = cc in subst RunNumber x (run_number_law l readings rows store e h);
    untouched = λ n p q. refl;
  }

  ran : (t : Term) → checked_first l rows readings store ≡ ok t → rows_tree l rows ≡ ok t → judge_script l.variables t ≡ ok tt → length store ≡ store_numbers l → length readings ≡ 8
      → Left (run_of l rows readings store)
  ran t h w j long eight =
      let s = accepted_safe t w j (λ x. closed) in
      let d = tree_decoded l rows t w in
      let k = in_rows t w in
      let e : run_of l rows readings store ≡ (answered (to_z w32 s.answer) s.final.taken, tidy_store l s.final.taken) =
      ap (λ (x : List ℕ). run_of l x readings store) k.0 ∙ run_safe l t d.ranges k.1 readings store eight long s j
      in
      subst Left (sym e) (record {
        safe = accepted_safe;
        answers = λ a c q.
            let x : a ≡ to_z w32 s.answer = cc in
            let y : c ≡ s.final.taken = cc in
            (t, h, s, x, y);
        tidy = λ a c q. let y : s.final.taken ≡ c = cc in ap (tidy_store l) y;
        refuses = λ n p q. answered_refused q;
        numbers = λ n p q. answered_refused q;
        untouched = λ n p q. answered_refused q;
      })

  refuse : (e : Refusal) → checked_first l rows readings store ≡ err e → Left (run_of l rows readings store)
  unfolding run_of checked_into
  refuse e h =
      let q : run_of l rows readings store ≡ (refused e.0 e.1, store) = rw h in
      subst Left (sym q) (unchanged e h)

  accept : (t : Term) → checked_first l rows readings store ≡ ok t → Left (run_of l rows readings store)
  unfolding checked_first runnable rows_tree need ◌>>=◌
  accept t h =
      let a = then (runnable l rows readings store) (λ t. judge_script l.variables t >>= λ _. ok t) t h in
      let j = then (judge_script l.variables a.0) (λ _. ok a.0) t a.2 in
      let same : a.0 ≡ t = cc j.2 in
      let b = then (run_fits l rows readings store) (λ _. decode l rows) a.0 a.1 in
      let f = fit_says l rows readings store b.0 b.1 in
      ran a.0 (h ∙ ap ok (sym same)) (rw (f.ranges, eq-eqb (length rows) (row_numbers l) f.long) b.2) j.1 f.size f.eight

  left : Left (run_of l rows readings store)
  left = go (checked_first l rows readings store) refl
    where
      go : (j : Result Refusal Term) → checked_first l rows readings store ≡ j → Left (run_of l rows readings store)
      go (ok t) h = accept t h
      go (err e) h = refuse e h

  pub safe_run : (r : RunAnswer) (store₁ : List ℕ) → (r, store₁) ≡ run_of l rows readings store → SafeRun l rows readings r store store₁
  safe_run r store₁ e = subst Left (sym e) left
