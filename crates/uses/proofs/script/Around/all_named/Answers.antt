-- `uses::script::Around::all_named` meets its contract. The loop: the set has what the terms before the row name. Assumes nothing.
use Prim.Native.Nat.{suc, ◌-◌, ◌+◌}
use native.Mathlib.Omega.{arith}
use mathlib.Core.Logic.{inl, inr}
use mathlib.Core.Bool.{true, false≢true}
use mathlib.Core.Path.{◌≡◌, sym, ap, ◌∙◌}
use Rattle.syntax.specs.declared.kinds.Kind.TheVariants as kind
use Rattle.syntax.specs.Kinds.{wraps_of}
use Rattle.syntax.specs.KindNumbers.{number_in}
use Rattle.variables.specs.declared.roots.Roots.{Roots}
use Rattle.variables.specs.Masks.{has}
use Rattle.uses.proofs.KindNames.{wraps_kind, same_number, not_other, wrap_first, row_first, row_none}
use Rattle.uses.proofs.BarredLaws.{nothing_named, named_all, wraps_at, named_none, named_first}
use Rattle.uses.proofs.script.Around.all_named.Goals as goal
use Rattle.uses.proofs.script.Around.all_named.Goals.{then-ne, else-ne}

pub loop-row-init : goal.loop-row-init
loop-row-init c = (nothing_named _ _ _ (omega arith) (has c.args.self.now.named), omega arith)

pub field_at-requires : goal.field_at-requires
field_at-requires c =
    let stands = wraps_at _ _ _ _ _ c.requires.0 c.loop-row.auto.row c.loop-row-test.true in
    (stands.room, omega arith)

pub unreachable-requires : goal.unreachable-requires
unreachable-requires c =
    let stands = wraps_at _ _ _ _ _ c.requires.0 c.loop-row.auto.row c.loop-row-test.true in
    c.in_default.ensures (wraps_kind _ (rw c.field_at.ensures stands.kind))

pub index_at-requires : goal.index_at-requires
index_at-requires c =
    let stands = wraps_at _ _ _ _ _ c.requires.0 c.loop-row.auto.row c.loop-row-test.true in
    (stands.room, omega arith)

pub only-requires : goal.only-requires
only-requires c =
    let stands = wraps_at _ _ _ _ _ c.requires.0 c.loop-row.auto.row c.loop-row-test.true in
    let no_box : c.in-Ok.kind ≡ kind.Box → ⊥ = λ q. false≢true (sym (rw q at c.ne.ensures) ∙ c.if-ne.true) in
    let read : number_in c.in-Ok.kind ≡ c.field_at.result = c.in-Ok.ensures in
    omega (arith, c.index_at.ensures, stands.number (λ q. no_box (same_number c.in-Ok.kind kind.Box (read ∙ c.field_at.ensures ∙ q))), c.requires.1)

pub loop-row-preserved : goal.loop-row-preserved
loop-row-preserved c =
    let stands = wraps_at _ _ _ _ _ c.requires.0 c.loop-row.auto.row c.loop-row-test.true in
    let read : number_in c.in-Ok.kind ≡ c.field_at.result = c.in-Ok.ensures in
    let wraps : wraps_of (number_in c.in-Ok.kind) ≡ true = rw (read, c.field_at.ensures) stands.kind in
    let rows = c.args.script.now.rows.now in
    let row = c.loop-row.row in
    let before : row ≡ c.args.self.now.start + (row - c.args.self.now.start) = omega (arith, c.loop-row.auto.row) in
    let next : row + 1 - c.args.self.now.start ≡ suc (row - c.args.self.now.start) = omega (arith, c.loop-row.auto.row) in (
      (elim c.if-ne.branch [
        | then-ne w ↦ λ x. ap (λ (s : Roots). has s x) w.all-is ∙ named_first rows _ _ row before (has c.args.self.now.named) (has c.loop-row.all) c.loop-row.invariant.0 _ next _ (rw w.index_at.ensures (row_first rows row _ c.field_at.ensures c.in-Ok.kind read (wrap_first c.in-Ok.kind wraps (λ q. false≢true (sym (rw q at c.ne.ensures) ∙ w.if-ne.true))))) (has w.unite-all.result) (has w.only.result) w.unite-all.ensures w.only.ensures x
        | else-ne w ↦ λ x. ap (λ (s : Roots). has s x) w.all-is ∙ named_none rows _ _ row before (has c.args.self.now.named) (has c.loop-row.all) c.loop-row.invariant.0 _ next (row_none rows row _ c.field_at.ensures c.in-Ok.kind read (inr (inr (inl (not_other c.in-Ok.kind kind.Box c.ne.ensures w.if-ne.false))))) x
      ]),
      omega (arith, c.loop-row-test.true),
    )

pub returns : goal.returns
returns c = named_all _ _ _ _ (has c.args.self.now.named) (has c.loop-row.all) (omega (arith, c.loop-row.auto, c.loop-row-test.false, c.loop-row.invariant.1)) c.loop-row.invariant.0
