-- `variables::roots::Roots::take_lowest` meets its contract. Assumes nothing.
use Prim.Native.Nat.{◌<◌, ◌^◌}
use native.Mathlib.Omega.{arith}
use mathlib.Core.Bool.{true, false}
use mathlib.Core.Path.{◌≡◌}
use borrow.Author.Tests.{eq-eqb, ne_eqb}
use Rattle.variables.specs.Masks.{is_empty}
use Rattle.variables.proofs.MaskLaws.{low_found, low_least, low_out, high_found, high_least, high_out}
use Rattle.variables.proofs.MemberLaws.{members_none, members_first}
use Rattle.variables.proofs.roots.Roots.take_lowest.Goals as goal

pub returns-then-self-ne0 : goal.returns-then-self-ne0
returns-then-self-ne0 c =
    let s = c.args.self.now in
    let l : s.low < 2 ^ 64 = omega (arith, c.fits-self) in
    let F = low_found s l c.if-self-ne0.true in
    members_first s _ _ (F.0, omega (arith, F.1), low_least s) (low_out s l c.if-self-ne0.true)

pub returns-then-self-ne0-2 : goal.returns-then-self-ne0-2
unfolding is_empty
returns-then-self-ne0-2 c =
    let s = c.args.self.now in
    let l : s.high < 2 ^ 64 = omega (arith, c.fits-self) in
    let some : is_empty s ≡ false = rw (eq-eqb s.low 0 c.if-self-ne0.false, ne_eqb s.high 0 c.if-self-ne0-2.true) in
    let F = high_found s l c.if-self-ne0.false some in
    members_first s _ _ (F.0, omega (arith, F.1), λ x h. high_least s x c.if-self-ne0.false h) (high_out s l c.if-self-ne0.false c.if-self-ne0-2.true)

pub returns : goal.returns
unfolding is_empty
returns c =
    let s = c.args.self.now in
    let e : is_empty s ≡ true = rw (eq-eqb s.low 0 c.if-self-ne0.false, eq-eqb s.high 0 c.if-self-ne0-2.false) in
    let none = members_none s e in (none, none)
