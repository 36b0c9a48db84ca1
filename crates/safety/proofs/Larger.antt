-- What is accepted under a set of limits is accepted under every set that is nowhere smaller, and its run is the same (LANGUAGE 2.8, 7.7).
use Prim.Native.Nat.{ℕ}
use mathlib.Core.Path.{◌≡◌, sym, ap, ◌∙◌}
use Rattle.syntax.specs.Result.{ok}
use Rattle.syntax.specs.Limits.{Limits}
use Rattle.syntax.specs.Script.{Term}
use Rattle.syntax.proofs.MoreLimits.{within_more}
use Rattle.statics.proofs.LargerJudge.{verdict_same}
use Rattle.dynamics.specs.Store.{Store, State, Ran}
use Rattle.dynamics.specs.Run.{run_script}
use Rattle.safety.specs.Safety.{Safe}
use Rattle.safety.specs.Larger.{SameEnd, LargerSets}
use Rattle.safety.proofs.Demand3.{demand_three}

-- No set and no earlier store is in the run, so two safe runs of a script with the same readings end alike.
pub one_end : (l m : Limits) (t : Term) (readings : ℕ → ℕ) (a b : Store) (p : Safe l t readings a) (q : Safe m t readings b)
    → ◌≡◌ {A = State × ℕ} (p.final, p.answer) (q.final, q.answer)
unfolding run_script
one_end l m t readings a b p q =
    let e : ◌≡◌ {A = Ran (State × ℕ)} (ok (p.final, p.answer)) (ok (q.final, q.answer)) = sym p.ends ∙ q.ends in
    cc

same_ends : (l m : Limits) (t : Term) (readings : ℕ → ℕ) (a b : Store) → Safe l t readings a → Safe m t readings b → SameEnd l m t readings a b
same_ends l m t readings a b p q =
    let e = one_end m l t readings b a q p in
    record { smaller = p; larger = q; answer = ap (λ (k : State × ℕ). k.1) e; final = ap (λ (k : State × ℕ). k.0) e }

pub larger_sets : LargerSets
larger_sets l m le = record {
  verdict = verdict_same l m le;
  stays = λ t within accepted.
      let w = within_more l m le t within in
      let j = verdict_same l m le t within ∙ accepted in
      record {
        within = w;
        judged = j;
        same_end = λ readings a b. same_ends l m t readings a b (demand_three l t within accepted readings a) (demand_three m t w j readings b);
      };
}
