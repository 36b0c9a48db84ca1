-- What is judged of rows, from the span of the outermost term and the first number after it that is not 0.
use Prim.Native.Nat.{ℕ, ◌+◌, ◌*◌, ◌/◌, ◌≤◌, ◌<◌}
use native.Mathlib.Omega.{arith}
use mathlib.Core.Path.{◌≡◌, refl, sym, ap, ◌∙◌}
use mathlib.Core.Bool.{Bool, true, false}
use mathlib.Core.List.{List}
use lib.ListN.{length, get_or, drop, length-drop}
use lib.Dec.{ltb, eqb}
use borrow.Author.Tests.{lt-ltb, le-ltb, eq-eqb, ne_eqb}
use Rattle.syntax.specs.Result.{Result, ok, err, need, Refusal, pick, ◌>>=◌}
use Rattle.syntax.specs.Limits.{Limits, in_ranges, row_numbers}
use Rattle.syntax.specs.Kinds.{newest, knows}
use Rattle.syntax.specs.Script.{Term, Whole}
use Rattle.syntax.specs.Layout.{in_rows}
use Rattle.syntax.specs.Reader.{Cursor, done, nothing_left, over, script, term, answer, start, decode_in, decode}
use Rattle.syntax.specs.Measures.{size}
use Rattle.syntax.specs.Answers.{rows_tree, judged_of, given_whole}
use Rattle.syntax.specs.RowParts.{no_block, term_rows, block_rows, judged_in, given_terms, span_of, first_used}
use Rattle.syntax.proofs.Answers.{after, stop, need_err, go_on, stops}
use Rattle.row_judge.proofs.LeftOver.{left_judged}
use Rattle.row_judge.proofs.DueBlock.{due_same}
use Rattle.row_judge.proofs.RowSpans.{refused_of, FineOf, fine_of, Ends, ends}

module _ (l : Limits) (rows : List ℕ) where
  pub other_set : in_ranges l ≡ false → err (74, 0) ≡ judged_of l rows
  unfolding judged_of rows_tree
  other_set r = sym (stop (rows_tree l rows) _ _ (stop (need (in_ranges l) (74, 0)) _ _ (need_err (in_ranges l) (74, 0) r)))

  module _ (ranges : in_ranges l ≡ true) where
    pub other_length : (length rows ≡ row_numbers l → ⊥) → err (2, 0) ≡ judged_of l rows
    unfolding judged_of rows_tree need ◌>>=◌
    other_length n = rw (ranges, ne_eqb (length rows) (row_numbers l) n)

    -- Rows of every version are those of the newest.
    pub judged_newest : length rows ≡ row_numbers l → judged_in l newest rows ≡ judged_of l rows
    unfolding judged_in judged_of rows_tree decode need ◌>>=◌
    judged_newest full = rw (ranges, eq-eqb (length rows) (row_numbers l) full)

-- The same of all that is judged first.
pub given_newest : (l : Limits) (rows : List ℕ) → given_terms l newest rows ≡ judged_of l rows
unfolding given_terms given_whole judged_of rows_tree decode knows newest need ◌>>=◌
given_newest l rows = go (in_ranges l) (eqb (length rows) (row_numbers l)) (decode_in l newest rows)
  where
    whole : Term → Whole
    whole t = record { version = newest; term = t }

    go : (a b : Bool) (r : Result Refusal Term)
        → ((need a (74, 0) >>= λ _. need b (2, 0) >>= λ _. need (knows newest newest) (11, 0) >>= λ _. r >>= λ t. ok (whole t)) >>= λ s. ok (size s.term))
        ≡ ((need a (74, 0) >>= λ _. need b (2, 0) >>= λ _. r) >>= λ t. ok (size t))
    go false b r = refl
    go true false r = refl
    go true true (ok t) = refl
    go true true (err e) = refl

module _ (l : Limits) (v : ℕ) (rows : List ℕ) (full : length rows ≡ row_numbers l) where
  judged_err : (e : Refusal) → script l v in_rows (start rows) ≡ err e → judged_in l v rows ≡ err e
  unfolding judged_in decode_in answer
  judged_err e h = stop (decode_in l v rows) _ e (stop (script l v in_rows (start rows)) _ e h)

  judged_ok : (t : Term) (s : Cursor) → script l v in_rows (start rows) ≡ ok (t, s) → judged_in l v rows ≡ ok (size t)
  unfolding judged_in decode_in answer
  judged_ok t s h = after (decode_in l v rows) _ t _ (after (script l v in_rows (start rows)) _ (t, s) _ h refl) refl

  pub judged_refused : (e : Refusal) → err e ≡ span_of (term_rows l v l.levels true rows 0 0) → err e ≡ judged_in l v rows
  unfolding script
  judged_refused e f = sym (judged_err e (stops (term l v in_rows l.levels true) _ (start rows) e (refused_of (term_rows l v l.levels true rows 0 0) e f)))

  -- The outermost term, judged as a block of one where it is no other than a block.
  module _ (block : no_block v rows 0 ≡ false) where
    pub block_refused : (e : Refusal) → err e ≡ span_of (block_rows l v l.levels 1 rows 0 0) → err e ≡ judged_in l v rows
    block_refused e f = judged_refused e (f ∙ due_same l v l.levels rows 0 0 full (omega arith) block)

  -- The outermost term has so many terms and boxes.
  module _ (each : (j : ℕ) → get_or rows j 0 < 4294967296) (block : no_block v rows 0 ≡ false) (terms boxes : ℕ) (g : ok (terms, boxes) ≡ span_of (block_rows l v l.levels 1 rows 0 0)) where
    f : ok (terms, boxes) ≡ span_of (term_rows l v l.levels true rows 0 0)
    f = g ∙ due_same l v l.levels rows 0 0 full (omega arith) block

    abbrev read : FineOf (term_rows l v l.levels true rows 0 0) terms boxes
    read = fine_of (term_rows l v l.levels true rows 0 0) terms boxes f

    abbrev ended : Ends l rows 0 read.value read.to
    ended = ends l v l.levels true rows 0 0 each read.value read.to read.is

    pub judged_fit : 5 * terms ≤ row_numbers l
    unfolding row_numbers
    judged_fit = omega (arith, ended.fits, read.terms)

    -- The first number after them that is not 0.
    module _ (used : ℕ) (is : used ≡ first_used (5 * terms) (drop (5 * terms) rows)) where
      nothing : nothing_left in_rows read.to.at read.to.rest ≡ pick (ltb used (row_numbers l)) (err (19, used / 5)) (ok tt)
      nothing =
          let e : 5 * terms + length (drop (5 * terms) rows) ≡ row_numbers l = omega (arith, length-drop (5 * terms) rows, judged_fit) in
          ap (λ (s : Cursor). nothing_left in_rows s.at s.rest) ended.is
          ∙ ap (λ (n : ℕ). nothing_left in_rows (5 * n) (drop (5 * n) rows)) read.terms
          ∙ left_judged (5 * terms) (drop (5 * terms) rows)
          ∙ rw (← is, e)

      pub judged_left : used < row_numbers l → err (19, used / 5) ≡ judged_in l v rows
      unfolding script over
      judged_left h =
          let e : nothing_left in_rows read.to.at read.to.rest ≡ err (19, used / 5) = nothing ∙ rw (lt-ltb used (row_numbers l) h) in
          sym (judged_err (19, used / 5)
          (go_on (term l v in_rows l.levels true) _ (start rows) read.to read.value _ read.is
          (stops (over in_rows) _ read.to _ (stop (nothing_left in_rows read.to.at read.to.rest) _ _ e))))

      pub judged_count : row_numbers l ≤ used → ok terms ≡ judged_in l v rows
      unfolding script over done
      judged_count h =
          let e : nothing_left in_rows read.to.at read.to.rest ≡ ok tt = nothing ∙ rw (le-ltb used (row_numbers l) h) in
          let z : size read.value ≡ terms = omega (arith, ended.terms, read.terms) in
          sym (judged_ok read.value read.to
          (go_on (term l v in_rows l.levels true) _ (start rows) read.to read.value _ read.is
          (go_on (over in_rows) _ read.to read.to tt _ (after (nothing_left in_rows read.to.at read.to.rest) _ tt _ e refl) refl)) ∙ ap ok z)
