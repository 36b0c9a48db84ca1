-- Move (LANGUAGE 3.20) of a place that passes 31 and 32: the tests one after the other, and what it leaves.
use Prim.Native.Nat.{ℕ, ◌≤◌, ◌<◌}
use mathlib.Core.Path.{◌≡◌, refl, sym, ap, ◌∙◌, subst}
use mathlib.Core.Bool.{true, false}
use mathlib.Core.Option.{some}
use mathlib.Core.List.{List}
use lib.ListN.{length, drop}
use borrow.Author.Tests.{le-leb, lt-leb}
use Rattle.syntax.specs.Result.{ok, err, need, ◌>>=◌}
use Rattle.syntax.specs.Script.{Place}
use Rattle.variables.specs.declared.table.Row.{Row}
use Rattle.variables.specs.declared.roots.Roots.{Roots}
use Rattle.statics.specs.Links.{Link, leading_boxes}
use Rattle.statics.specs.Environment.{Variable, live, update, moved_away, moved_away_at}
use Rattle.statics.specs.Follow.{value_whole}
use Rattle.statics.specs.Uses.{Unfinished}
use Rattle.statics.specs.Bars.{write_barred}
use Rattle.statics.specs.Rules.{Judged, Out, in_scope, judge_move}
use Rattle.variables.specs.Chains.{chain_of}
use Rattle.variables.specs.Table.{links_at, roots_at, end_in, environment_of, SameLinks}
use Rattle.rules.specs.RuleAnswers.{Named}
use Rattle.variables.specs.Verdicts.{type_of}
use Rattle.rules.proofs.ValueLaws.{moved_out}
use Rattle.rules.proofs.PlaceLaws.{variable_is, named_live, on_chain}

module _ (env : List Row) (nv : ℕ) (p : Place) {rest : ℕ} (F : Named (environment_of env) p rest) where
  abbrev chain : List Link
  chain = F.variable.chain

  pub boxes_is : (x : ℕ) → x ≡ p.root → (links boxes : ℕ) → links ≡ links_at env x → boxes ≡ leading_boxes (chain_of links) → boxes ≡ leading_boxes chain
  boxes_is x at links boxes same count =
      count ∙ ap (λ (l : ℕ). leading_boxes (chain_of l)) (same ∙ ap (links_at env) at) ∙ ap (λ (v : Variable). leading_boxes v.chain) (sym (variable_is env p F))

  pub move_passed : (ns : Unfinished) (i : ℕ) → leading_boxes chain < p.follows → judge_move nv ns (environment_of env) i p ≡ err (38, i)
  unfolding judge_move in_scope need ◌>>=◌
  move_passed ns i l = rw (F.is, le-leb p.follows (length chain) F.long, lt-leb p.follows (leading_boxes chain) l)

  module _ (own : p.follows ≤ leading_boxes chain) where
    pub move_moved : (ns : Unfinished) (i : ℕ) → value_whole nv (environment_of env) p.root F.variable ≡ false → judge_move nv ns (environment_of env) i p ≡ err (33, i)
    unfolding judge_move in_scope need ◌>>=◌
    move_moved ns i h = rw (F.is, le-leb p.follows (length chain) F.long, le-leb p.follows (leading_boxes chain) own, h)

    module _ (whole : value_whole nv (environment_of env) p.root F.variable ≡ true) where
      pub move_barred : (ns : Unfinished) (i : ℕ) → write_barred nv ns (environment_of env) p.root ≡ true → judge_move nv ns (environment_of env) i p ≡ err (35, i)
      unfolding judge_move in_scope need ◌>>=◌
      move_barred ns i h = rw (F.is, le-leb p.follows (length chain) F.long, le-leb p.follows (leading_boxes chain) own, whole, h)

      abbrev moved : Variable → Judged Out
      moved v = ok (update (environment_of env) p.root (live (moved_away v p.follows)), some (type_of (drop p.follows v.chain) v.borrow))

      move_is : (ns : Unfinished) (i : ℕ) → write_barred nv ns (environment_of env) p.root ≡ false → judge_move nv ns (environment_of env) i p ≡ moved F.variable
      unfolding judge_move in_scope need ◌>>=◌
      move_is ns i h = rw (F.is, le-leb p.follows (length chain) F.long, le-leb p.follows (leading_boxes chain) own, whole, h)

      -- The table after the move, and its value: the roots that the root, which the code has as x, recorded, with the links from the place on.
      pub move_there : (env' : List Row) → SameLinks env env' → (x : ℕ) → x ≡ p.root → (s : Roots) → s ≡ roots_at env x → environment_of env' ≡ update (environment_of env) x (moved_away_at (environment_of env x) p.follows)
          → (ns : Unfinished) (i : ℕ) → write_barred nv ns (environment_of env) p.root ≡ false → ok (environment_of env', some (type_of (chain_of rest) (end_in env' (chain_of rest) s))) ≡ judge_move nv ns (environment_of env) i p
      move_there env' S x at s r e ns i h =
          let is = variable_is env p F in
          moved_out env env' S x p.root p.follows rest s at (named_live env p F p.root refl) (subst (λ (v : Variable). p.follows ≤ leading_boxes v.chain) is own) (on_chain env p F) r e
          ∙ ap moved (sym is)
          ∙ sym (move_is ns i h)
