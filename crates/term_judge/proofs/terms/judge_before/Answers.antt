-- `term_judge::terms::judge_before` meets its contract. Assumes nothing.
use native.Mathlib.Omega.{arith}
use mathlib.Core.Path.{◌≡◌, sym, ap, ◌∙◌}
use mathlib.Core.Bool.{false≢true}
use borrow.Author.Tests.{eq-eqb, ne_eqb}
use Rattle.syntax.specs.declared.kinds.Kind.TheVariants as kind
use Rattle.syntax.specs.KindNumbers.{number_in}
use Rattle.syntax.specs.RowParts.{field_at}
use Rattle.uses.proofs.KindNames.{wraps_kind, same_number, not_other}
use Rattle.term_judge.specs.JudgeRows.{begin_at}
use Rattle.term_judge.proofs.terms.judge_before.Goals as goal
use Rattle.term_judge.proofs.terms.judge_before.Goals.{Else-ne}

-- Where it is a let.
is_let : (e : Else-ne) → field_at e.args.script.now.rows.now e.args.i 0 ≡ 8
is_let e =
    let read : number_in e.in-Ok.kind ≡ e.field_at.result = e.in-Ok.ensures in
    let same : e.in-Ok.kind ≡ kind.Let = not_other e.in-Ok.kind kind.Let e.ne.ensures e.if-ne.false in
    sym e.field_at.ensures ∙ sym read ∙ ap number_in same

pub field_at-requires : goal.field_at-requires
field_at-requires c = (c.requires.0.room, omega arith)

pub unreachable-requires : goal.unreachable-requires
unreachable-requires c = c.in_default.ensures (wraps_kind _ (rw c.field_at.ensures c.requires.0.kind))

pub returns-then-ne : goal.returns-then-ne
unfolding begin_at
returns-then-ne c =
    let read : number_in c.in-Ok.kind ≡ c.field_at.result = c.in-Ok.ensures in
    let no_let : c.in-Ok.kind ≡ kind.Let → ⊥ = λ q. false≢true (sym (rw q at c.ne.ensures) ∙ c.if-ne.true) in
    (rw (ne_eqb _ _ (λ q. no_let (same_number c.in-Ok.kind kind.Let (read ∙ c.field_at.ensures ∙ q)))), c.requires.1)

pub index_at-x-requires : goal.index_at-x-requires
index_at-x-requires c = (c.requires.0.room, omega arith)

pub begin_let-requires : goal.begin_let-requires
begin_let-requires c =
    let let_kind = is_let (goal.at.begin_let-requires c).Else-ne in
    (c.requires.1, omega (arith, c.index_at-x.ensures, c.requires.0.number (λ q. omega (arith, let_kind, q))))

pub returns : goal.returns
unfolding begin_at
returns c =
    (rw (eq-eqb _ _ (is_let (goal.at.returns c).Else-ne), ← c.index_at-x.ensures) c.begin_let.ensures.0, c.begin_let.ensures.1)
