-- `term_judge::terms::judge_kind` meets its contract. Assumes nothing.
use Prim.Native.Nat.{ℕ, ◌<◌}
use native.Mathlib.Omega.{arith}
use mathlib.Core.Path.{◌≡◌, sym, ◌∙◌}
use mathlib.Core.Logic.{inl, inr}
use mathlib.Core.Bool.{true}
use mathlib.Core.Option.{some}
use lib.ListN.{length}
use Rattle.syntax.specs.KindNumbers.{as_kind}
use Rattle.statics.specs.Uses.{names}
use Rattle.statics.specs.Bars.{read_barred, write_barred}
use Rattle.variables.specs.Table.{TableFor}
use Rattle.uses.specs.RowUses.{names_of}
use Rattle.uses.specs.RowPlaces.{AllAround}
use Rattle.uses.proofs.KindNames.{NamesFirst}
use Rattle.uses.proofs.FoundUses.{first_of, both_of}
use Rattle.uses.proofs.BarredLaws.{at_root}
use Rattle.term_judge.specs.JudgeRows.{judge_leaf}
use Rattle.term_judge.proofs.LeafLaws.{leaf_both, leaf_number_law}
use Rattle.term_judge.proofs.terms.judge_kind.Goals as goal
use Rattle.term_judge.proofs.terms.judge_kind.Goals.{After-index_of-root}

-- Where the first root is known.
module _ (x : After-index_of-root) where
  -- What is asked where it is told whether a root is barred.
  abbrev Asked : ℕ → Type 0
  Asked root = AllAround x.args.script.now x.args.around.now × TableFor x.args.env.now x.args.script.now.variables × (length x.args.script.now.uses.now ≡ x.args.script.now.variables) × (root < x.args.script.now.variables)

  -- The term names it.
  asked : (root y : ℕ) → root ≡ y → names (names_of (some (as_kind x.args.kind)) x.args.first.root x.args.second.root) y ≡ true → Asked root
  asked root y e named = (x.requires.2, x.requires.0.0, x.requires.1, omega (arith, e, x.requires.3 y named))

  -- The first root, where the term names it.
  asked_one : NamesFirst x.args.kind → Asked x.index_of-root.result
  asked_one h = asked _ _ x.index_of-root.ensures (first_of x.args.kind _ _ h)

pub read_barred-barred-requires : goal.read_barred-barred-requires
read_barred-barred-requires c = asked_one (goal.at.read_barred-barred-requires c).After-index_of-root (inl c.in-Copy.is)

pub write_barred-barred-requires : goal.write_barred-barred-requires
write_barred-barred-requires c = asked_one (goal.at.write_barred-barred-requires c).After-index_of-root (inr (inl c.in-Move.is))

pub read_barred-barred-requires-in-Shared : goal.read_barred-barred-requires-in-Shared
read_barred-barred-requires-in-Shared c = asked_one (goal.at.read_barred-barred-requires-in-Shared c).After-index_of-root (inr (inr (inl c.in-Shared.is)))

pub write_barred-barred-requires-in-Exclusive : goal.write_barred-barred-requires-in-Exclusive
write_barred-barred-requires-in-Exclusive c = asked_one (goal.at.write_barred-barred-requires-in-Exclusive c).After-index_of-root (inr (inr (inr (inl c.in-Exclusive.is))))

pub read_barred-barred-requires-in-Below : goal.read_barred-barred-requires-in-Below
read_barred-barred-requires-in-Below c = asked (goal.at.read_barred-barred-requires-in-Below c).After-index_of-root _ _ c.index_of-root.ensures (both_of c.args.kind _ _ c.in-Below.is).0

pub read_barred-other_barred-requires : goal.read_barred-other_barred-requires
read_barred-other_barred-requires c = asked (goal.at.read_barred-other_barred-requires c).After-index_of-root _ _ c.index_of-other.ensures (both_of c.args.kind _ _ c.in-Below.is).1

pub returns-in-Copy : goal.returns-in-Copy
unfolding judge_leaf
returns-in-Copy c = (λ ns later. rw c.in-Copy.is (c.judge_copy.ensures _ ns (at_root (read_barred _ ns _) c.index_of-root.ensures (c.read_barred-barred.ensures ns later))), c.requires.0.0)

pub returns-in-Move : goal.returns-in-Move
unfolding judge_leaf
returns-in-Move c =
    (λ ns later. rw c.in-Move.is (c.judge_move.ensures.0 _ ns (at_root (write_barred _ ns _) c.index_of-root.ensures (c.write_barred-barred.ensures ns later))), c.judge_move.ensures.1)

pub returns-in-Shared : goal.returns-in-Shared
unfolding judge_leaf
returns-in-Shared c = (λ ns later. rw c.in-Shared.is (c.judge_shared.ensures _ ns (at_root (read_barred _ ns _) c.index_of-root.ensures (c.read_barred-barred-in-Shared.ensures ns later))), c.requires.0.0)

pub returns-in-Exclusive : goal.returns-in-Exclusive
unfolding judge_leaf
returns-in-Exclusive c = (λ ns later. rw c.in-Exclusive.is (c.judge_exclusive.ensures _ ns (at_root (write_barred _ ns _) c.index_of-root.ensures (c.write_barred-barred-in-Exclusive.ensures ns later))), c.requires.0.0)

pub returns-in-Below : goal.returns-in-Below
unfolding judge_leaf
returns-in-Below c =
    (λ ns later. c.judge_below.ensures _ ns (at_root (read_barred _ ns _) c.index_of-root.ensures (c.read_barred-barred-in-Below.ensures ns later)) (at_root (read_barred _ ns _) c.index_of-other.ensures (c.read_barred-other_barred.ensures ns later)) ∙ leaf_both _ c.args.kind _ _ _ ns _ c.in-Below.is, c.requires.0.0)

pub returns-in_default : goal.returns-in_default
returns-in_default c =
    (λ ns later. c.number_value.ensures _ _ ∙ sym (leaf_number_law _ c.args.kind _ _ _ ns _ c.in_default.not-Copy c.in_default.not-Move c.in_default.not-Shared c.in_default.not-Exclusive c.in_default.not-Below c.in_default.not-Sum), c.requires.0.0)
