-- `variables::chains::last_shared` meets its contract. Assumes nothing.
use Rattle.std.proofs.Common.{List, ◌+◌, ◌-◌, sym, ◌∙◌, ap, take, arith}
use Rattle.syntax.specs.Result.{pick}
use Rattle.std.proofs.Math.Option.{some}
use Rattle.statics.specs.Links.{Link, last_shared}
use Rattle.variables.specs.Chains.{as_passed}
use Rattle.variables.proofs.ChainLaws.{same_shared, last_of, last_start, last_over, last_end, last_more}
use Rattle.variables.proofs.chains.last_shared.Goals as goal
use Rattle.variables.proofs.chains.last_shared.Goals.{then-eq, else-eq}

pub loop-passed-init : goal.loop-passed-init
loop-passed-init c = last_start c.args.k c.args.links

pub returns-in_default : goal.returns-in_default
returns-in_default c =
    let l = c.loop-passed in
    let left = c.args.k - l.passed in
    last_over (as_passed l.last) l.passed left ∙ ap (λ (ks : List Link). last_of (as_passed l.last) l.passed (last_shared (take left ks))) (sym c.in_default.ensures) ∙ l.invariant

pub loop-passed-preserved : goal.loop-passed-preserved
loop-passed-preserved c =
    let l = c.loop-passed in
    let left = c.args.k - l.passed in
    let shared = sym (same_shared c.in-Some.link) ∙ sym c.eq.ensures in
    last_more (as_passed l.last) (as_passed c.if-eq.last) l.passed left (c.args.k - (l.passed + 1)) c.in-Some.link _ (omega arith)
    (elim c.if-eq.branch [ then-eq w ↦ ap as_passed w.last-is ∙ ap (λ b. pick b (some l.passed) (as_passed l.last)) (sym (shared ∙ w.if-eq.true)) | else-eq w ↦ ap as_passed w.last-is ∙ ap (λ b. pick b (some l.passed) (as_passed l.last)) (sym (shared ∙ w.if-eq.false)) ])
    ∙ ap (λ (ks : List Link). last_of (as_passed l.last) l.passed (last_shared (take left ks))) (sym c.in-Some.ensures.0) ∙ l.invariant

pub returns : goal.returns
returns c =
    let l = c.loop-passed in
    last_end (as_passed l.last) l.passed (c.args.k - l.passed) _ (omega arith) ∙ l.invariant
