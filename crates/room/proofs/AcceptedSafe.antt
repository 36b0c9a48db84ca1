-- What `run` and `run_unchecked` do with rows that the check accepts or refuses (LANGUAGE 6.6, 7.4): what the check's answer says of the rows,
-- and safety of their script.
use Prim.Native.Nat.{ℕ}
use lib.IntN.{ℤ}
use Rattle.std.specs.Prelude.{Ok, Err}
use native.Mathlib.Omega.{arith}
use mathlib.Core.Path.{◌≡◌, sym, ap, ◌∙◌}
use mathlib.Core.List.{List}
use mir.Syntax.{w32}
use mir.Val.{to_z}
use Rattle.syntax.specs.Limits.{Limits}
use Rattle.syntax.specs.Within.{Under}
use Rattle.ownership.proofs.Accepted.{accepted}
use Rattle.dynamics.specs.Values.{closed}
use Rattle.dynamics.specs.Store.{Store, State}
use Rattle.dynamics.specs.Readings.{bits_of}
use Rattle.dynamics.specs.Answers.{AnswerAndStore, answered, unchecked_of}
use Rattle.machine.specs.Outcomes.{told_unchecked}
use Rattle.machine.specs.declared.Ran.{Ran}
use Rattle.machine.specs.declared.Stopped.{Stopped}
use Rattle.machine.specs.declared.Stopped.TheVariants as stopped
use Rattle.safety.proofs.Demand3.{demand_three}
use Rattle.safety.proofs.Larger.{one_end}
use Rattle.room.specs.Running.{told_run, run_of}
use Rattle.room.specs.Accepted.{AcceptedRuns, RefusedRuns}
use Rattle.room.proofs.TreeRows.{unchecked_safe, run_safe}
use Rattle.room.specs.Parts.{of_unchecked, RunAccepted}
use Rattle.room.proofs.RunLaws.{check_refuses, check_accepts}

pub accepted_runs : (l : Limits) → AcceptedRuns l
accepted_runs l rows n u e readings store eight long =
    let a = accepted l rows n u e in
    let safe = demand_three l a.script a.within a.judged (bits_of readings) in
    let s = safe (λ x. closed) in
    let one : (earlier : Store) → ◌≡◌ {A = State × ℕ} (s.final, s.answer) ((safe earlier).final, (safe earlier).answer) =
    λ earlier. one_end l l a.script (bits_of readings) (λ x. closed) earlier s (safe earlier)
    in
    record {
      script = a.script;
      decodes = a.decodes;
      terms = a.terms;
      safe = safe;
      answer = to_z w32 s.answer;
      cells = s.final.taken;
      its_answer = λ earlier. ap (λ (k : State × ℕ). to_z w32 k.1) (one earlier);
      its_cells = λ earlier. ap (λ (k : State × ℕ). k.0.taken) (one earlier);
      ran = ap (λ (r : List ℕ). run_of l r readings store) a.laid ∙ run_safe l a.script a.ranges a.within readings store eight long s a.judged;
      ran_unchecked = ap (λ (r : List ℕ). unchecked_of l r readings store) a.laid ∙ unchecked_safe l a.script a.ranges a.within readings store eight long s;
    }

pub refused_runs : (l : Limits) → RefusedRuns l
refused_runs l rows e h readings store eight long = check_refuses l rows readings store eight long e h

-- The machine's run of accepted rows does not stop, and answers what `run` answers.
module _ (l : Limits) (rows : List ℕ) (readings : List ℤ) (store : List ℕ) (u : Under 4294967296 rows) (a : RunAccepted l rows readings store) where
  pub never_stopped : (s : Stopped) (store₁ : List ℕ) → (told_unchecked (Err s), store₁) ≡ unchecked_of l rows readings store → ⊥
  unfolding told_unchecked
  never_stopped s store₁ e = go s (ap (λ (k : AnswerAndStore). k.0) (e ∙ (accepted_runs l rows a.terms u a.accepted readings store a.eight a.size).ran_unchecked))
    where
      go : (t : Stopped) {y : ℤ} {n : ℕ} → told_unchecked (Err t) ≡ answered y n → ⊥
      go (stopped.Refused r) q = let z : ◌≡◌ {A = ℕ} 0 1 = cc in absurd (omega arith)
      go (stopped.Faulted r) q = let z : ◌≡◌ {A = ℕ} 0 1 = cc in absurd (omega arith)

  pub run_accepted : (r : Ran) (store₁ : List ℕ) → (told_unchecked (Ok r), store₁) ≡ unchecked_of l rows readings store → (told_run (Ok r), store₁) ≡ run_of l rows readings store
  unfolding told_unchecked told_run of_unchecked
  run_accepted r store₁ q =
      ap (λ (x : AnswerAndStore). (of_unchecked x.0, x.1)) q
      ∙ sym (check_accepts l rows readings store a.eight a.size a.terms a.accepted)
