-- `rules::rules::judge_move` meets its contract. Assumes nothing.
use Prim.Native.Nat.{ℕ, ◌≤◌, ◌<◌}
use native.Mathlib.Omega.{arith}
use mathlib.Core.Path.{◌≡◌, refl, sym, ap, ◌∙◌}
use mathlib.Core.Bool.{Bool, true, false}
use mathlib.Core.List.{List}
use Rattle.syntax.specs.Script.{Place}
use Rattle.variables.specs.declared.table.Row.{Row}
use Rattle.statics.specs.Links.{leading_boxes}
use Rattle.variables.specs.Chains.{chain_of}
use Rattle.statics.specs.Follow.{value_whole}
use Rattle.variables.specs.Table.{links_at, variable_at, environment_of, as_place}
use Rattle.rules.specs.RuleAnswers.{Named}
use Rattle.rules.proofs.PlaceLaws.{named_at, move_refused, named_live, named_inside, whole_is}
use Rattle.rules.proofs.MoveLaws.{boxes_is, move_passed, move_moved, move_barred, move_there}
use Rattle.variables.specs.Verdicts.{answered}
use Rattle.variables.proofs.QuestionLaws.{left_with}
use Rattle.rules.proofs.rules.judge_move.Goals as goal
use Rattle.rules.proofs.rules.judge_move.Goals.{In_ok-rest}

-- Where the place is named; the code has its root as `root`.
module _ (k : In_ok-rest) where
  abbrev env : List Row
  env = k.args.env.now

  abbrev nv : ℕ
  nv = k.args.variables

  abbrev p : Place
  p = as_place k.args.place

  abbrev root : ℕ
  root = k.index_of-root.result

  is_root : root ≡ p.root
  is_root = k.index_of-root.ensures

  named : Named (environment_of env) p k.in_ok-rest.rest
  named = named_at nv (environment_of env) 0 p (k.judge_named.ensures 0) k.in_ok-rest.was

  inside : root < nv
  inside = named_inside env p named root is_root nv k.requires

  abbrev boxes : ℕ
  boxes = leading_boxes named.variable.chain

  -- Its boxes are counted.
  counted : {l n : ℕ} → l ≡ links_at env root → n ≡ leading_boxes (chain_of l) → n ≡ boxes
  counted = boxes_is env nv p named _ is_root _ _

  -- Where it passes no borrow link, and where its value is whole.
  own : {l n f : ℕ} → l ≡ links_at env root → n ≡ leading_boxes (chain_of l) → f ≡ p.follows → f ≤ n → p.follows ≤ boxes
  own same count is below = omega (arith, counted same count)

  whole : {b : Bool} → b ≡ value_whole nv (environment_of env) root (variable_at env root) → b ≡ true → value_whole nv (environment_of env) p.root named.variable ≡ true
  whole is holds = whole_is env p named _ is_root nv _ true is holds

pub judge_named-requires : goal.judge_named-requires
judge_named-requires c = c.requires.0

pub bounds-env-root : goal.bounds-env-root
bounds-env-root c =
    omega (arith, c.requires.0.0, named_inside _ _ (named_at _ _ 0 (as_place c.args.place) (c.judge_named.ensures 0) c.in_ok-rest.was) _ c.index_of-root.ensures _ c.requires)

pub returns-then-leading_boxes-index_of : goal.returns-then-leading_boxes-index_of
returns-then-leading_boxes-index_of c =
    let k = (goal.at.returns-then-leading_boxes-index_of c).In_ok-rest in (
      λ i ns barred. sym (move_passed c.args.env.now c.args.variables (p k) (named k) ns i (omega (arith, counted k refl c.leading_boxes.ensures.0, c.index_of.ensures, c.if-leading_boxes-index_of.true))),
      c.requires.0,
    )

pub value_whole-requires : goal.value_whole-requires
value_whole-requires c =
    let k = (goal.at.value_whole-requires c).In_ok-rest in (c.requires, named_live c.args.env.now (p k) (named k) _ (is_root k))

pub returns-then-not-value_whole : goal.returns-then-not-value_whole
returns-then-not-value_whole c =
    let k = (goal.at.returns-then-not-value_whole c).In_ok-rest in (
      λ i ns barred. sym (move_moved c.args.env.now c.args.variables (p k) (named k) (own k refl c.leading_boxes.ensures.0 c.index_of.ensures c.if-leading_boxes-index_of.false) ns i (whole_is c.args.env.now (p k) (named k) _ (is_root k) c.args.variables _ false c.value_whole.ensures c.if-not-value_whole.true)),
      c.requires.0,
    )

pub returns-then-barred : goal.returns-then-barred
returns-then-barred c =
    let k = (goal.at.returns-then-barred c).In_ok-rest in (
      λ i ns barred. sym (move_barred (env k) (nv k) (p k) (named k) (own k refl c.leading_boxes.ensures.0 c.index_of.ensures c.if-leading_boxes-index_of.false) (whole k c.value_whole.ensures c.if-not-value_whole.false) ns i (sym barred ∙ c.if-barred.true)),
      c.requires.0,
    )

pub bounds-env-root-2 : goal.bounds-env-root-2
bounds-env-root-2 c =
    omega (arith, c.requires.0.0, named_inside _ _ (named_at _ _ 0 (as_place c.args.place) (c.judge_named.ensures 0) c.in_ok-rest.was) _ c.index_of-root.ensures _ c.requires)

pub move_away-requires : goal.move_away-requires
move_away-requires c =
    let k = (goal.at.move_away-requires c).In_ok-rest in
    (c.requires.0, inside k)

pub returns-in_err-rest : goal.returns-in_err-rest
returns-in_err-rest c = (
  λ i ns barred. ap (answered _ i) (left_with _ _ c.from_residual.ensures.1) ∙ sym (move_refused c.args.variables (environment_of c.args.env.now) i (as_place c.args.place) (c.judge_named.ensures i) c.in_err-rest.was ns),
  c.requires.0,
)

pub returns : goal.returns
returns c =
    let k = (goal.at.returns c).In_ok-rest in (
      λ i ns barred. c.value_of.ensures _ i
          ∙ move_there (env k) (nv k) (p k) (named k) (own k refl c.leading_boxes.ensures.0 c.index_of.ensures c.if-leading_boxes-index_of.false) (whole k c.value_whole.ensures c.if-not-value_whole.false) _ c.move_away.ensures.2 _ (is_root k) _ refl c.move_away.ensures.0 ns i (sym barred ∙ c.if-barred.false),
      c.move_away.ensures.1,
    )
