-- Safety of accepted scripts (LANGUAGE 7.4): every script that the check accepts runs to its end and gives everything back.
use Prim.Native.Nat.{ℕ, ◌≤◌}
use native.Mathlib.Omega.{arith}
use native.Mathlib.Nat.{zero-add}
use mathlib.Core.Path.{◌≡◌, refl, sym, ap, ◌∙◌, subst}
use mathlib.Core.Bool.{true, false≢true}
use mathlib.Core.Option.{Option, none, some}
use mathlib.Core.List.{[], append-nil}
use Rattle.syntax.specs.Result.{ok, ◌>>=◌}
use Rattle.syntax.specs.Limits.{Limits}
use Rattle.syntax.specs.Script.{Term, block, Terms}
use Rattle.syntax.specs.Within.{Within}
use Rattle.statics.specs.Environment.{Environment, Ty}
use Rattle.statics.specs.Uses.{finishing}
use Rattle.syntax.specs.Reader.{branch}
use Rattle.syntax.proofs.Building.{a_block}
use Rattle.statics.specs.Judge.{judge, is_answer, nothing_taken, judge_script}
use Rattle.dynamics.specs.Values.{Value, num}
use Rattle.dynamics.specs.Store.{Store, State}
use Rattle.dynamics.specs.Locate.{number_in}
use Rattle.dynamics.specs.Drop.{close_all}
use Rattle.statics.proofs.NeatJudged.{formed_lets}
use Rattle.dynamics.specs.Run.{Outcome, run_block_end, begun, run, runs, run_script}
use Rattle.dynamics.specs.Boxes.{boxes_run}
use Rattle.safety.specs.Safety.{Safe, Demand3}
use Rattle.statics.proofs.Answers.{err≢ok}
use Rattle.dynamics.proofs.FaultLaws.{met_faults}
use Rattle.syntax.proofs.Answers.{then, needed}
use Rattle.safety.proofs.EndNumbers.{end_numbers}
use Rattle.dynamics.proofs.CellCounts.{count_given}
use Rattle.dynamics.proofs.Counting.{taken_is, boxes_bound}
use Rattle.safety.proofs.Inversion.{number_nil}
use Rattle.safety.proofs.Invariant.{Invariant}
use Rattle.safety.proofs.Soundness.{Sound, sound}
use Rattle.safety.proofs.Start.{start}
use Rattle.safety.proofs.ScriptEnd.{answer_num, answer_is, variable_closed, cell_given}

-- After a block the variables opened are again those of the block around it.
module _ (readings : ℕ → ℕ) where
  opens : (i : ℕ) (ts : Terms) (s s' : State) (v : Value) → run readings (block i ts) s ≡ ok (s', v) → s'.opened ≡ s.opened
  unfolding run run_block_end
  opens i ts s s' v h =
      let a = then (runs readings ts i _) _ (s', v) h in
      let b = then (close_all i a.0.0 a.0.0.opened) _ (s', v) a.2 in
      let z : ◌≡◌ {A = Outcome} (record { store = b.0.store; taken = b.0.taken; opened = s.opened }, a.0.1) (s', v) = let k = b.2 in cc in
      sym (ap (λ (k : Outcome). k.0.opened) z)

run_script_law : (readings : ℕ → ℕ) (t : Term) (earlier : Store) (s : State) (n : ℕ) → run readings t (begun earlier) ≡ ok (s, num n)
    → run_script readings t earlier ≡ ok (s, n)
unfolding run_script number_in ◌>>=◌
run_script_law readings t earlier s n e = rw e refl

-- The answer is a number (43; LANGUAGE 3.29).
answered : (nv : ℕ) (o : Option Ty) → is_answer nv o ≡ true → (t : Ty) × (o ≡ some t) × (t.links ≡ [])
answered nv none h = absurd (false≢true h)
answered nv (some t) h = (t, refl, number_nil t.links h)

module _ (l : Limits) (i : ℕ) (ts : Terms) (within : Within l (block i ts)) (readings : ℕ → ℕ) (earlier : Store) where
  -- What the invariant at the end says.
  finish : (Γ : Environment) (o : Option Ty) (t : Ty) → o ≡ some t → t.links ≡ [] → (s : State) (v : Value) → Invariant l.variables [] Γ o 0 s v
      → run readings (block i ts) (begun earlier) ≡ ok (s, v) → s.opened ≡ [] → Safe l (block i ts) readings earlier
  finish Γ o t e nil s v I ran op = record {
    final = s;
    answer = n;
    ends = run;
    faultless = λ f m. err≢ok (sym (met_faults readings m) ∙ run);
    variables = variable_closed J op nil;
    untaken = J.mem.untaken;
    given = cell_given J op nil;
    numbers = end_numbers l.variables s.store l.boxes s.taken few (variable_closed J op nil) (cell_given J op nil) J.mem.untaken;
    boxes = taken;
    back = sym (count_given l.boxes s.store s.taken few (cell_given J op nil) J.mem.untaken);
  }
    where
      J : Invariant l.variables [] Γ (some t) 0 s v
      J = subst (λ (k : Option Ty). Invariant l.variables [] Γ k 0 s v) e I

      n : ℕ
      n = (answer_num J op nil).0

      run : run_script readings (block i ts) earlier ≡ ok (s, n)
      run = run_script_law readings (block i ts) earlier s n (ran ∙ ap (λ (k : Value). ok (s, k)) (answer_is J op nil))

      taken : s.taken ≡ boxes_run readings (block i ts) (begun earlier)
      taken = taken_is readings (block i ts) (begun earlier) s v ran ∙ zero-add (boxes_run readings (block i ts) (begun earlier))

      few : s.taken ≤ l.boxes
      few = let b = boxes_bound readings (block i ts) (begun earlier) in let c = within.boxes in omega (arith, taken)

  -- The outermost block is accepted, so it runs and keeps the invariant, which says the rest.
  safe : judge_script l.variables (block i ts) ≡ ok tt → Safe l (block i ts) readings earlier
  unfolding judge_script Sound
  safe h =
      let a = then (judge l.variables (block i ts) 0 (finishing (block i ts)) (nothing_taken l.variables)) _ tt h in
      let R = sound l.variables readings (block i ts) 0 (finishing (block i ts)) [] (nothing_taken l.variables) (begun earlier) a.0 (formed_lets l 0 (block i ts) within.formed) (sym (append-nil (finishing (block i ts)))) a.1 (start l.variables (finishing (block i ts)) earlier) in
      let n = answered l.variables a.0.1 (needed _ _ _ a.2) in
      finish a.0.0 a.0.1 n.0 n.1 n.2 R.s R.v R.inv R.ran (opens readings i ts (begun earlier) R.s R.v R.ran)

pub demand_three : (l : Limits) → Demand3 l
demand_three l t within accepted readings earlier =
    let e = a_block t within.outermost in
    subst (λ (u : Term). Safe l u readings earlier) e
    (safe l (branch t).0 (branch t).1 (subst (λ (u : Term). Within l u) (sym e) within) readings earlier (subst (λ (u : Term). judge_script l.variables u ≡ ok tt) (sym e) accepted))
