-- `row_judge::rows::judge_row` meets its contract: the code's tests, in order, are those of `row_number`. Assumes nothing.
use Prim.Native.Nat.{ℕ, ◌<◌}
use native.Mathlib.Omega.{arith}
use mathlib.Core.Path.{◌≡◌, refl, sym, ap, ◌∙◌}
use mathlib.Core.Bool.{Bool, true, false, ◌&&◌, false≢true}
use lib.Dec.{leb, eqb}
use borrow.Author.Tests.{eq-eqb, ne_eqb, le-leb, lt-leb}
use Rattle.syntax.specs.RowParts.{row_number}
use Rattle.syntax.specs.KindNumbers.{number_in}
use Rattle.row_judge.proofs.RowSpans.{kind_fields, only_box}
use Rattle.row_judge.proofs.rows.judge_row.Goals as goal
use Rattle.row_judge.proofs.rows.judge_row.Goals.{in-Box, in_default-matches, else-matches-via-then-matches+else-limits-progress, else-matches-via-else-matches}

-- The test that looks at the kind and at the boxes: where it does not refuse.
room_left : (most kind boxes : ℕ) → boxes < most → (eqb kind 7 && leb most boxes) ≡ false
room_left most kind boxes h = rw (lt-leb most boxes h) (go (eqb kind 7))
  where
    go : (t : Bool) → (t && false) ≡ false
    go true = refl
    go false = refl

no_box : (most kind boxes : ℕ) → (kind ≡ 7 → ⊥) → (eqb kind 7 && leb most boxes) ≡ false
no_box most kind boxes n = rw (ne_eqb kind 7 n)

pub returns-then-limits-i : goal.returns-then-limits-i
unfolding row_number
returns-then-limits-i c = (rw (le-leb _ _ c.if-limits-i.true), omega arith)

pub returns-then-number-eq0 : goal.returns-then-number-eq0
unfolding row_number
returns-then-number-eq0 c = (rw (lt-leb _ _ c.if-limits-i.false, ← c.field_at-number.ensures, eq-eqb _ _ c.if-number-eq0.true), omega arith)

pub returns-in_default : goal.returns-in_default
unfolding row_number
returns-in_default c = (rw (lt-leb _ _ c.if-limits-i.false, ← c.field_at-number.ensures, ne_eqb _ _ c.if-number-eq0.false, c.in_default.ensures), omega arith)

pub returns-then-levels-eq0 : goal.returns-then-levels-eq0
unfolding row_number
returns-then-levels-eq0 c = (rw (lt-leb _ _ c.if-limits-i.false, ← c.field_at-number.ensures, ne_eqb _ _ c.if-number-eq0.false, c.in-Some.ensures.1, eq-eqb _ _ c.if-levels-eq0.true), omega arith)

pub returns-then-limits-progress : goal.returns-then-limits-progress
unfolding row_number
returns-then-limits-progress c =
    let b : c.field_at-number.result ≡ 7 = elim c.match-matches.branch [ in-Box w ↦ sym c.in-Some.ensures.0 ∙ ap number_in w.in-Box.is | in_default-matches w ↦ absurd (false≢true (sym w.matches-is ∙ c.if-matches.true)) ] in
    (rw (lt-leb _ _ c.if-limits-i.false, ← c.field_at-number.ensures, ne_eqb _ _ c.if-number-eq0.false, c.in-Some.ensures.1, ne_eqb _ _ c.if-levels-eq0.false, eq-eqb _ _ b, le-leb _ _ c.if-limits-progress.true), omega arith)

pub returns-then-not-fields_fit : goal.returns-then-not-fields_fit
unfolding row_number
returns-then-not-fields_fit c =
    let b = c.field_at-number.result in
    let boxes = c.args.progress.now.boxes in
    let most = c.args.limits.now.boxes in
    let no : c.match-matches.matches ≡ false → b ≡ 7 → ⊥ = λ f h. elim c.match-matches.branch [ in-Box w ↦ false≢true (sym f ∙ w.matches-is) | in_default-matches w ↦ w.in_default-matches.not-Box (only_box c.in-Some.kind (c.in-Some.ensures.0 ∙ h)) ] in
    let room : (eqb b 7 && leb most boxes) ≡ false = elim c.else-matches.branch [ else-matches-via-then-matches+else-limits-progress w ↦ room_left most b boxes w.if-limits-progress.false | else-matches-via-else-matches w ↦ no_box most b boxes (no w.if-matches.false) ] in
    (rw (lt-leb _ _ c.if-limits-i.false, ← c.field_at-number.ensures, ne_eqb _ _ c.if-number-eq0.false, c.in-Some.ensures.1, ne_eqb _ _ c.if-levels-eq0.false, room, kind_fields _ _ _ c.in-Some.ensures.0, ← c.field_at-a.ensures, ← c.field_at-b.ensures, ← c.field_at-c.ensures, ← c.field_at-d.ensures, ← c.fields_fit.ensures, c.if-not-fields_fit.true), omega arith)

pub returns : goal.returns
unfolding row_number
returns c =
    let b = c.field_at-number.result in
    let boxes = c.args.progress.now.boxes in
    let most = c.args.limits.now.boxes in
    let no : c.match-matches.matches ≡ false → b ≡ 7 → ⊥ = λ f h. elim c.match-matches.branch [ in-Box w ↦ false≢true (sym f ∙ w.matches-is) | in_default-matches w ↦ w.in_default-matches.not-Box (only_box c.in-Some.kind (c.in-Some.ensures.0 ∙ h)) ] in
    let room : (eqb b 7 && leb most boxes) ≡ false = elim c.else-matches.branch [ else-matches-via-then-matches+else-limits-progress w ↦ room_left most b boxes w.if-limits-progress.false | else-matches-via-else-matches w ↦ no_box most b boxes (no w.if-matches.false) ] in
    (rw (lt-leb _ _ c.if-limits-i.false, ← c.field_at-number.ensures, ne_eqb _ _ c.if-number-eq0.false, c.in-Some.ensures.1, ne_eqb _ _ c.if-levels-eq0.false, room, kind_fields _ _ _ c.in-Some.ensures.0, ← c.field_at-a.ensures, ← c.field_at-b.ensures, ← c.field_at-c.ensures, ← c.field_at-d.ensures, ← c.fields_fit.ensures, c.if-not-fields_fit.false), c.in-Some.ensures.0 ∙ c.field_at-number.ensures)
