-- `uses::uses::find_uses` meets its contract. The loop: the last uses among the rows before i are found. Assumes nothing.
use native.Mathlib.Omega.{arith}
use mathlib.Core.Path.{◌≡◌, refl}
use lib.ListN.{length-set}
use Rattle.syntax.specs.KindNumbers.{number_in}
use Rattle.uses.proofs.KindNames.{row_unknown, row_first, row_both, row_none}
use Rattle.uses.proofs.FoundUses.{one_below, two_below, used_next, used_all, marked_none, marked_one, marked_two}
use Rattle.uses.proofs.uses.find_uses.Goals as goal
use Rattle.uses.proofs.uses.find_uses.Goals.{in-Number, in-Copy, in-Below}

pub loop-i-preserved-in_default : goal.loop-i-preserved-in_default
loop-i-preserved-in_default c =
    let unknown = row_unknown c.args.rows.now c.loop-i.i _ c.field_at.ensures (λ h. c.in_default.ensures h) in
    used_next _ _ _ _ (omega arith) _ _ c.loop-i.invariant (marked_none _ _ _ c.requires.0 _ _ _ c.loop-i.invariant.long unknown refl)

pub bounds-uses-first : goal.bounds-uses-first
bounds-uses-first c =
    let names = row_first c.args.rows.now c.loop-i.i _ c.field_at.ensures c.in-Ok.kind c.in-Ok.ensures c.in-Copy.is in
    let below = one_below _ _ _ c.requires.0 _ c.loop-i.uses c.loop-i.uses c.loop-i.invariant.long _ names in
    omega (arith, below, c.index_at-first.ensures, c.loop-i.invariant.long)

pub bounds-uses-first-in-Below : goal.bounds-uses-first-in-Below
bounds-uses-first-in-Below c =
    let names = row_both c.args.rows.now c.loop-i.i _ c.field_at.ensures c.in-Ok.kind c.in-Ok.ensures c.in-Below.is in
    let below = two_below _ _ _ c.requires.0 _ c.loop-i.uses c.loop-i.uses c.loop-i.invariant.long _ _ names in
    omega (arith, below, c.index_at-first-in-Below.ensures, c.loop-i.invariant.long)

pub bounds-uses-second : goal.bounds-uses-second
bounds-uses-second c =
    let names = row_both c.args.rows.now c.loop-i.i _ c.field_at.ensures c.in-Ok.kind c.in-Ok.ensures c.in-Below.is in
    let below = two_below _ _ _ c.requires.0 _ c.loop-i.uses c.loop-i.uses c.loop-i.invariant.long _ _ names in
    simp length-set (omega (arith, below, c.index_at-second.ensures, c.loop-i.invariant.long))

pub loop-i-preserved : goal.loop-i-preserved
loop-i-preserved c =
    let rows = c.args.rows.now in
    let i = c.loop-i.i in
    let row = c.field_at.ensures in
    let k = c.in-Ok.kind in
    let read : number_in k ≡ c.field_at.result = c.in-Ok.ensures in
    let long = c.loop-i.invariant.long in
    used_next _ _ _ _ (omega arith) _ _ c.loop-i.invariant
    (elim c.match-kind.branch [
      | in-Number w ↦ marked_none _ _ _ c.requires.0 _ _ _ long (row_none rows i _ row k read w.in-Number.is) w.uses-is
      | in-Copy w ↦ marked_one _ _ _ c.requires.0 _ _ _ long _ (rw w.index_at-first.ensures (row_first rows i _ row k read w.in-Copy.is)) _ (omega arith) w.uses-is
      | in-Below w ↦ marked_two _ _ _ c.requires.0 _ _ _ long _ _ (rw (w.index_at-first-in-Below.ensures, w.index_at-second.ensures) (row_both rows i _ row k read w.in-Below.is)) _ (omega arith) w.uses-is
    ])

pub returns : goal.returns
returns c = used_all _ _ _ _ _ c.requires.0 c.loop-i-test.false c.loop-i.invariant
