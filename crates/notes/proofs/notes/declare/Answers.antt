-- `notes::notes::declare` meets its contract. Assumes nothing.
use Prim.Native.Nat.{ℕ}
use native.Mathlib.Omega.{arith}
use native.Mathlib.Numerals.{add-one}
use mathlib.Core.Path.{refl, ◌∙◌, subst}
use lib.ListN.{length-set}
use Rattle.variables.specs.Table.{MemberAdded}
use Rattle.variables.proofs.TableLaws.{field_put}
use Rattle.notes.proofs.DeclareLaws.{declared}
use Rattle.notes.proofs.notes.declare.Goals as goal

pub returns : goal.returns
returns c =
    let args = c.args in
    let pre = c.requires in
    let env₃ = c.note_exclusive.new.env in
    let env₄ = c.add_member.new.env in
    declared args.env.now args.variables args.x pre.0 pre.1 pre.2 args.state pre.3 pre.4 _ c.store.new.env env₃ env₄
    (c.add_member.auto.env ∙ c.note_exclusive.auto.env ∙ c.store.auto.env ∙ length-set _ _ _)
    (field_put _ _ (omega (arith, pre.0.0, pre.1)) _ 0 _ (omega arith) refl) c.store.ensures c.note_exclusive.ensures
    (subst (λ (row : ℕ). MemberAdded env₃ row args.x env₄) (add-one args.variables) c.add_member.ensures)
