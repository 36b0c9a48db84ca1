-- The span of a term by its row's kind, and of a block by its terms: what the term judge and the block judge of rows answer.
use Prim.Native.Nat.{ℕ, zero, suc, ◌+◌, ◌*◌, ◌-◌, ◌≤◌, ◌<◌}
use native.Mathlib.Omega.{arith}
use native.Mathlib.Numerals.{sub-one}
use mathlib.Core.Path.{◌≡◌, refl, sym, ap, ◌∙◌, subst}
use mathlib.Core.Logic.{◌⊎◌, ⊎_elim}
use mathlib.Core.Bool.{Bool, true, false, false≢true, ◌&&◌}
use mathlib.Core.Option.{some}
use mathlib.Core.List.{List, [], ◌∷◌}
use lib.ListN.{length, take, drop, get_or}
use lib.Seq.{get_or-drop, drop-drop, drop_at}
use lib.Dec.{leb, ltb}
use borrow.Author.Tests.{leb-true}
use Rattle.syntax.specs.Result.{Result, ok, err, Refusal}
use Rattle.syntax.specs.Limits.{Limits}
use Rattle.syntax.specs.Script.{Term, Terms, number}
use Rattle.syntax.specs.Kinds.{Kind, k_box, k_let, k_assign, k_block, k_choice, byte_of, newest, kind_of, fields}
use Rattle.syntax.specs.Layout.{in_rows, lay}
use Rattle.syntax.specs.Reader.{Cursor, Reads, done, is, boxes_of, several, built, term}
use Rattle.syntax.specs.Measures.{size}
use Rattle.syntax.specs.Within.{Under}
use Rattle.syntax.specs.KindNumbers.{number_in, as_kind}
use Rattle.std.specs.Prelude as std
use Rattle.syntax.specs.Refusals.{refusal_of, told}
use Rattle.syntax.specs.declared.refusals.Refusal as code_refusal
use Rattle.syntax.specs.declared.kinds.Kind as code
use Rattle.syntax.specs.declared.kinds.Kind.TheVariants as kind
use Rattle.syntax.specs.Parts.{cursor, fields_of}
use Rattle.syntax.specs.RowParts.{field_at, fields_at, field_fits, fields_fit, row_number, RowsReady, row_cursor, term_rows, block_rows, branch_rows, Span, span_of}
use Rattle.syntax.proofs.Answers.{go_on, stops}
use Rattle.syntax.proofs.KindBytes.{has, added_most}
use Rattle.syntax.proofs.KnownKinds.{kind_newest}
use Rattle.syntax.proofs.RowFields.{fields_by}
use Rattle.syntax.proofs.TermSteps.{Leaf, leaf_number, leaf_reading, leaf_copy, leaf_move, leaf_shared, leaf_exclusive, leaf_below, leaf_sum, Around, around_box, around_let, around_assign, leaf_ok, around_err, around_ok, block_err, block_ok}
use Rattle.syntax.proofs.Branches.{branches_err, branches_ok}
use Rattle.syntax.proofs.Lengths.{laid_rows}
use Rattle.syntax.proofs.Sound.{sound}
use Rattle.syntax.proofs.RowTerms.{Enters, Judges, row_judged}

-- What `?` hands on of a refusal.
pub told_err : {A B : Type 0} (f : A → B) (r : std.Result A code_refusal.Refusal) (e d : code_refusal.Refusal) → r ≡ std.Err e → e ≡ d → told f r ≡ err (refusal_of d)
told_err f r e d h q = rw (h, q)

abbrev reached : ℕ → ℕ → Span
reached i boxes = ok (i, boxes)

-- What a span says of the answer that it is of.
pub refused_of : {A : Type 0} (o : Result Refusal (A × Cursor)) (e : Refusal) → err e ≡ span_of o → o ≡ err e
unfolding span_of
refused_of (ok o) e h = cc
refused_of (err d) e h = cc

pub record FineOf {A : Type 0} (o : Result Refusal (A × Cursor)) (n b : ℕ) : Type 0 where
  pub value : A
  pub to : Cursor
  pub is : o ≡ ok (value, to)
  pub terms : to.terms ≡ n
  pub boxes : to.boxes ≡ b

pub fine_of : {A : Type 0} (o : Result Refusal (A × Cursor)) (n b : ℕ) → ok (n, b) ≡ span_of o → FineOf o n b
unfolding span_of
fine_of (ok o) n b h =
    let q : ◌≡◌ {A = ℕ × ℕ} (n, b) (o.1.terms, o.1.boxes) = cc in
    record { value = o.0; to = o.1; is = refl; terms = sym (ap (λ (x : ℕ × ℕ). x.0) q); boxes = sym (ap (λ (x : ℕ × ℕ). x.1) q) }
fine_of (err e) n b h = absurd cc

-- The code's kinds: their kind bytes, and which have no inner term.
pub byte_number : (k : code.Kind) → byte_of (as_kind k) ≡ number_in k
unfolding byte_of
byte_number kind.Number = refl
byte_number kind.Reading = refl
byte_number kind.Copy = refl
byte_number kind.Move = refl
byte_number kind.Shared = refl
byte_number kind.Exclusive = refl
byte_number kind.Box = refl
byte_number kind.Let = refl
byte_number kind.Assign = refl
byte_number kind.Below = refl
byte_number kind.Block = refl
byte_number kind.Choice = refl
byte_number kind.Sum = refl

pub kind_fields : (l : Limits) (k : code.Kind) (b : ℕ) → number_in k ≡ b → fields_of l b ≡ fields l (as_kind k)
kind_fields l k b h = fields_by l (as_kind k) b (sym h ∙ sym (byte_number k))

leaf_of : (k : code.Kind) → (k ≡ kind.Box → ⊥) → (k ≡ kind.Let → ⊥) → (k ≡ kind.Assign → ⊥) → (k ≡ kind.Block → ⊥) → (k ≡ kind.Choice → ⊥) → Leaf (as_kind k)
leaf_of kind.Number a b c d e = leaf_number
leaf_of kind.Reading a b c d e = leaf_reading
leaf_of kind.Copy a b c d e = leaf_copy
leaf_of kind.Move a b c d e = leaf_move
leaf_of kind.Shared a b c d e = leaf_shared
leaf_of kind.Exclusive a b c d e = leaf_exclusive
leaf_of kind.Box a b c d e = absurd (a refl)
leaf_of kind.Let a b c d e = absurd (b refl)
leaf_of kind.Assign a b c d e = absurd (c refl)
leaf_of kind.Below a b c d e = leaf_below
leaf_of kind.Block a b c d e = absurd (d refl)
leaf_of kind.Choice a b c d e = absurd (e refl)
leaf_of kind.Sum a b c d e = leaf_sum

pub only_box : (k : code.Kind) → number_in k ≡ 7 → k ≡ kind.Box
only_box kind.Number h = absurd (omega arith)
only_box kind.Reading h = absurd (omega arith)
only_box kind.Copy h = absurd (omega arith)
only_box kind.Move h = absurd (omega arith)
only_box kind.Shared h = absurd (omega arith)
only_box kind.Exclusive h = absurd (omega arith)
only_box kind.Box h = refl
only_box kind.Let h = absurd (omega arith)
only_box kind.Assign h = absurd (omega arith)
only_box kind.Below h = absurd (omega arith)
only_box kind.Block h = absurd (omega arith)
only_box kind.Choice h = absurd (omega arith)
only_box kind.Sum h = absurd (omega arith)

pub only_block : (k : code.Kind) → number_in k ≡ 11 → k ≡ kind.Block
only_block kind.Number h = absurd (omega arith)
only_block kind.Reading h = absurd (omega arith)
only_block kind.Copy h = absurd (omega arith)
only_block kind.Move h = absurd (omega arith)
only_block kind.Shared h = absurd (omega arith)
only_block kind.Exclusive h = absurd (omega arith)
only_block kind.Box h = absurd (omega arith)
only_block kind.Let h = absurd (omega arith)
only_block kind.Assign h = absurd (omega arith)
only_block kind.Below h = absurd (omega arith)
only_block kind.Block h = refl
only_block kind.Choice h = absurd (omega arith)
only_block kind.Sum h = absurd (omega arith)

leaf_boxes : {k : Kind} → Leaf k → boxes_of k ≡ 0
unfolding boxes_of is byte_of
leaf_boxes leaf_number = refl
leaf_boxes leaf_reading = refl
leaf_boxes leaf_copy = refl
leaf_boxes leaf_move = refl
leaf_boxes leaf_shared = refl
leaf_boxes leaf_exclusive = refl
leaf_boxes leaf_below = refl
leaf_boxes leaf_sum = refl

-- A term around another has its span.
around_span : (i : ℕ) (vs : List ℕ) (inner : Bool → Reads Term) (s : Cursor) {k : Kind} → Around k → span_of (built k i vs inner s) ≡ span_of (inner false s)
unfolding span_of
around_span i vs inner s {k} a = go (inner false s) refl
  where
    go : (o : Result Refusal (Term × Cursor)) → inner false s ≡ o → span_of (built k i vs inner s) ≡ span_of o
    go (ok o) e = ap span_of (around_ok i vs inner s a o.0 o.1 e)
    go (err e) h = ap span_of (around_err i vs inner s a e h)

-- A block has its terms' span.
block_span : (i : ℕ) (vs : List ℕ) (inner : Bool → Reads Term) (s : Cursor) → span_of (built k_block i vs inner s) ≡ span_of (several (inner false) (get_or vs 0 0 - 1) s)
unfolding span_of
block_span i vs inner s = go (several (inner false) (get_or vs 0 0 - 1) s) refl
  where
    go : (o : Result Refusal (Terms × Cursor)) → several (inner false) (get_or vs 0 0 - 1) s ≡ o → span_of (built k_block i vs inner s) ≡ span_of o
    go (ok o) e = ap span_of (block_ok i vs inner s o.0 o.1 e)
    go (err e) h = ap span_of (block_err i vs inner s e h)

-- A choice has its two blocks' span.
choice_span : (i : ℕ) (vs : List ℕ) (inner : Bool → Reads Term) (s : Cursor) → span_of (built k_choice i vs inner s) ≡ span_of (several (inner true) 1 s)
unfolding span_of
choice_span i vs inner s = go (several (inner true) 1 s) refl
  where
    go : (o : Result Refusal (Terms × Cursor)) → several (inner true) 1 s ≡ o → span_of (built k_choice i vs inner s) ≡ span_of o
    go (ok o) e = ap span_of (branches_ok i vs inner s o.0 o.1 e)
    go (err e) h = ap span_of (branches_err i vs inner s e h)

-- What the code finds at row i: a refusal, or a kind k and so the term at the row.
module _ (l : Limits) (v levels : ℕ) (outer : Bool) (rows : List ℕ) (i boxes : ℕ) (ready : RowsReady l rows i boxes) where
  judges : (n : ℕ) → row_number l v levels outer rows i boxes ≡ n → Judges l v levels outer rows i boxes n
  judges n is = subst (Judges l v levels outer rows i boxes) is (row_judged l v levels outer rows i boxes ready.full ready.few)

  pub refused_span : (n : ℕ) → (row_number l v levels outer rows i boxes ≡ n) × (0 < n) → err (n, i) ≡ span_of (term_rows l v levels outer rows i boxes)
  unfolding span_of
  refused_span n h = sym (ap span_of ((judges n h.0).refuses (λ z. omega arith)))

  module _ (k : code.Kind) (h : (row_number l v levels outer rows i boxes ≡ 0) × (number_in k ≡ field_at rows i 0)) where
    abbrev e : Enters l v levels outer rows i boxes
    e = (judges 0 h.0).enters refl

    pub row_room : i < l.terms
    row_room = e.room

    pub row_deep : 0 < levels
    row_deep = e.deep

    its_kind : e.kind ≡ as_kind k
    its_kind =
        let b = field_at rows i 0 in
        let m : byte_of (as_kind k) ≡ b = byte_number k ∙ h.1 in
        let z : some e.kind ≡ some (as_kind k) = sym (kind_newest b v e.kind e.is) ∙ ap (kind_of newest) (sym m) ∙ has newest (as_kind k) (added_most (as_kind k)) in cc

    abbrev operands_at : Kind → List ℕ
    operands_at j = take (length (fields l j)) (fields_at rows i)

    abbrev built_at : Kind → Result Refusal (Term × Cursor)
    built_at j = built j i (operands_at j) (term l v in_rows (levels - 1)) (row_cursor rows (i + 1) (boxes + boxes_of j))

    builds : (j : Kind) → as_kind k ≡ j → term_rows l v levels outer rows i boxes ≡ built_at j
    builds j q = e.builds ∙ ap built_at (its_kind ∙ q)

    few : (j : Kind) → as_kind k ≡ j → boxes + boxes_of j ≤ l.boxes
    few j q = subst (λ (j : Kind). boxes + boxes_of j ≤ l.boxes) (its_kind ∙ q) e.few

    pub leaf_spans : (k ≡ kind.Box → ⊥) → (k ≡ kind.Let → ⊥) → (k ≡ kind.Assign → ⊥) → (k ≡ kind.Block → ⊥) → (k ≡ kind.Choice → ⊥) → ok (i + 1, boxes) ≡ span_of (term_rows l v levels outer rows i boxes)
    unfolding span_of
    leaf_spans n7 n8 n9 n11 n12 =
        let f = leaf_of k n7 n8 n9 n11 n12 in
        let z : boxes + boxes_of (as_kind k) ≡ boxes = omega (arith, leaf_boxes f) in
        ap (λ (x : ℕ). reached (i + 1) x) (sym z) ∙ sym (ap span_of (builds (as_kind k) refl ∙ leaf_ok i _ _ _ f (number i 0)))

    around_spans : (j : Kind) → as_kind k ≡ j → Around j → (n : ℕ) → boxes + boxes_of j ≡ n → (r : Span) → r ≡ span_of (term_rows l v (levels - 1) false rows (i + 1) n) → r ≡ span_of (term_rows l v levels outer rows i boxes)
    around_spans j q f n z r g =
        g ∙ ap (λ (x : ℕ). span_of (term_rows l v (levels - 1) false rows (i + 1) x)) (sym z) ∙ sym (ap span_of (builds j q) ∙ around_span i _ (term l v in_rows (levels - 1)) _ f)

    module _ (box_here : k ≡ kind.Box) where
      pub box_few : boxes + 1 ≤ l.boxes
      unfolding boxes_of is byte_of
      box_few = few k_box (ap as_kind box_here)

      pub box_spans : (r : Span) → r ≡ span_of (term_rows l v (levels - 1) false rows (i + 1) (boxes + 1)) → r ≡ span_of (term_rows l v levels outer rows i boxes)
      unfolding boxes_of is byte_of
      box_spans r g = around_spans k_box (ap as_kind box_here) around_box (boxes + 1) refl r g

    pub wrap_spans : (k ≡ kind.Let) ⊎ (k ≡ kind.Assign) → (r : Span) → r ≡ span_of (term_rows l v (levels - 1) false rows (i + 1) boxes) → r ≡ span_of (term_rows l v levels outer rows i boxes)
    unfolding boxes_of is byte_of
    wrap_spans h r g = ⊎_elim (λ q. around_spans k_let (ap as_kind q) around_let boxes (omega arith) r g) (λ q. around_spans k_assign (ap as_kind q) around_assign boxes (omega arith) r g) h

    module _ (block_here : k ≡ kind.Block) (count : ℕ) (counts : count ≡ field_at rows i 1) where
      pub block_spans : (r : Span) → r ≡ span_of (block_rows l v (levels - 1) count rows (i + 1) boxes) → r ≡ span_of (term_rows l v levels outer rows i boxes)
      unfolding fields boxes_of is byte_of
      block_spans r g =
          let z : boxes + boxes_of k_block ≡ boxes = omega arith in
          g ∙ ap (λ (x : ℕ). span_of (block_rows l v (levels - 1) x rows (i + 1) boxes)) counts
          ∙ ap (λ (x : ℕ). span_of (block_rows l v (levels - 1) (field_at rows i 1) rows (i + 1) x)) (sym z)
          ∙ sym (ap span_of (builds k_block (ap as_kind block_here)) ∙ block_span i (field_at rows i 1 ∷ []) (term l v in_rows (levels - 1)) _)

      -- A block has one term at least.
      pub block_count : 0 < count
      unfolding fields fields_fit field_fits
      block_count =
          let t = ap (λ (j : Kind). fields_fit (fields l j) (fields_at rows i)) (sym (its_kind ∙ ap as_kind block_here)) ∙ e.fit in
          omega (arith, leb-true 1 (field_at rows i 1) (first_of (leb 1 (field_at rows i 1)) (ltb (field_at rows i 1) 256) _ t))
        where
          first_of : (a b c : Bool) → ((a && b) && c) ≡ true → a ≡ true
          first_of true b c h = refl
          first_of false b c h = absurd (false≢true h)

    pub choice_spans : k ≡ kind.Choice → (r : Span) → r ≡ span_of (branch_rows l v (levels - 1) rows (i + 1) boxes) → r ≡ span_of (term_rows l v levels outer rows i boxes)
    unfolding boxes_of is byte_of
    choice_spans choice_here r g =
        let z : boxes + boxes_of k_choice ≡ boxes = omega arith in
        g ∙ ap (λ (x : ℕ). span_of (branch_rows l v (levels - 1) rows (i + 1) x)) (sym z)
        ∙ sym (ap span_of (builds k_choice (ap as_kind choice_here)) ∙ choice_span i _ (term l v in_rows (levels - 1)) _)

-- Every number of the slice fits its type.
abbrev pub Words : List ℕ → Type 0
Words rows = (j : ℕ) → get_or rows j 0 < 4294967296

words_under : (xs : List ℕ) → Words xs → Under 4294967296 xs
words_under [] h = tt
words_under (x ∷ xs) h = (h 0, words_under xs (λ j. h (suc j)))

-- The reader of a term ends at a row again, within the limits.
pub record Ends (l : Limits) (rows : List ℕ) (i : ℕ) (t : Term) (s' : Cursor) : Type 0 where
  pub is : s' ≡ row_cursor rows s'.terms s'.boxes
  pub terms : s'.terms ≡ i + size t
  pub fits : s'.terms ≤ l.terms
  pub few : s'.boxes ≤ l.boxes

pub ends : (l : Limits) (v levels : ℕ) (outer : Bool) (rows : List ℕ) (i boxes : ℕ) → Words rows → (t : Term) (s' : Cursor) → term_rows l v levels outer rows i boxes ≡ ok (t, s') → Ends l rows i t s'
ends l v levels outer rows i boxes w t s' h =
    let r = (sound l v in_rows levels outer (row_cursor rows i boxes) s' t (words_under (drop (5 * i) rows) (λ j. rw (get_or-drop (5 * i) rows j 0) (w (5 * i + j)))) h).0 in
    let five = laid_rows t in
    let z : 5 * i + 5 * size t ≡ 5 * s'.terms = omega (arith, r.terms) in
    let a : s'.at ≡ 5 * s'.terms = omega (arith, r.at, r.terms) in
    let b : s'.rest ≡ drop (5 * s'.terms) rows = sym (drop_at (lay in_rows t) s'.rest (5 * size t) five) ∙ ap (λ (x : List ℕ). drop (5 * size t) x) (sym r.rest) ∙ drop-drop (5 * size t) (5 * i) rows ∙ ap (λ (x : ℕ). drop x rows) z in
    record {
      is = ap (λ (x : List ℕ). cursor x s'.at s'.terms s'.boxes) b ∙ ap (λ (x : ℕ). cursor (drop (5 * s'.terms) rows) x s'.terms s'.boxes) a;
      terms = r.terms;
      fits = r.fits;
      few = r.few;
    }

-- So many terms of a block from row i on, none included. `outer` says of each that it must be a block, as those of a choice.
unfoldable pub rest_span : Limits → ℕ → ℕ → Bool → List ℕ → ℕ → ℕ → ℕ → Span
rest_span l v levels outer rows zero i boxes = ok (i, boxes)
rest_span l v levels outer rows (suc n) i boxes = span_of (several (term l v in_rows levels outer) n (row_cursor rows i boxes))

module _ (l : Limits) (v levels : ℕ) (outer : Bool) (rows : List ℕ) (i boxes : ℕ) where
  abbrev all : ℕ → Result Refusal (Terms × Cursor)
  all count = several (term l v in_rows levels outer) (count - 1) (row_cursor rows i boxes)

  abbrev one : Reads Term
  one = term l v in_rows levels outer

  abbrev s : Cursor
  s = row_cursor rows i boxes

  pub all_span : (count : ℕ) → 0 < count → rest_span l v levels outer rows count i boxes ≡ span_of (all count)
  unfolding rest_span
  all_span zero h = absurd (omega arith)
  all_span (suc n) h = rw sub-one

  pub rest_left : (m n : ℕ) → m ≡ n → rest_span l v levels outer rows m i boxes ≡ rest_span l v levels outer rows n i boxes
  rest_left m n e = ap (λ (k : ℕ). rest_span l v levels outer rows k i boxes) e

  pub none_span : (n : ℕ) → n ≤ 0 → ok (i, boxes) ≡ rest_span l v levels outer rows n i boxes
  unfolding rest_span
  none_span zero h = refl
  none_span (suc n) h = absurd (omega arith)

  -- A block of one term has the term's span.
  pub one_span : span_of (all 1) ≡ span_of (one s)
  unfolding several span_of done
  one_span = go (one s) refl
    where
      go : (o : Result Refusal (Term × Cursor)) → one s ≡ o → span_of (all 1) ≡ span_of o
      go (ok o) q = ap span_of (go_on one _ s o.1 o.0 _ q refl)
      go (err e) q = ap span_of (stops one _ s e q)

  several_stops : (n : ℕ) (e : Refusal) → one s ≡ err e → several one n s ≡ err e
  unfolding several
  several_stops zero e h = stops one _ s e h
  several_stops (suc n) e h = stops one _ s e h

  pub stop_span : (left : ℕ) → 0 < left → (e : Refusal) → err e ≡ span_of (one s) → err e ≡ rest_span l v levels outer rows left i boxes
  unfolding rest_span span_of
  stop_span zero h e q = absurd (omega arith)
  stop_span (suc m) h e q = sym (ap span_of (several_stops m e (refused_of (one s) e q)))

  several_goes : (n : ℕ) (t : Term) (s' : Cursor) → one s ≡ ok (t, s') → span_of (several one (suc n) s) ≡ span_of (several one n s')
  unfolding several span_of done
  several_goes n t s' h = go (several one n s') refl
    where
      go : (o : Result Refusal (Terms × Cursor)) → several one n s' ≡ o → span_of (several one (suc n) s) ≡ span_of o
      go (ok o) q = ap span_of (go_on one _ s s' t _ h (go_on (several one n) _ s' o.1 o.0 _ q refl))
      go (err e) q = ap span_of (go_on one _ s s' t _ h (stops (several one n) _ s' e q))

  -- A term was read to row j: the others are left from there.
  module _ (w : Words rows) (j b : ℕ) (f : ok (j, b) ≡ span_of (one s)) where
    abbrev read : FineOf (one s) j b
    read = fine_of (one s) j b f

    abbrev ended : Ends l rows i read.value read.to
    ended = ends l v levels outer rows i boxes w read.value read.to read.is

    pub rest_room : j ≤ l.terms
    rest_room = omega (arith, ended.fits, read.terms)

    pub rest_few : b ≤ l.boxes
    rest_few = omega (arith, ended.few, read.boxes)

    from_row : read.to ≡ row_cursor rows j b
    from_row = ended.is ∙ ap (λ (x : ℕ). row_cursor rows x read.to.boxes) read.terms ∙ ap (λ (x : ℕ). row_cursor rows j x) read.boxes

    pub rest_span_law : (left : ℕ) → 0 < left → rest_span l v levels outer rows (left - 1) j b ≡ rest_span l v levels outer rows left i boxes
    unfolding rest_span several span_of done
    rest_span_law zero h = absurd (omega arith)
    rest_span_law (suc zero) h = f ∙ ap span_of read.is ∙ sym (ap span_of (go_on one _ s read.to read.value _ read.is refl))
    rest_span_law (suc (suc n)) h = rw sub-one (ap (λ (x : Cursor). span_of (several one n x)) (sym from_row) ∙ sym (several_goes n read.value read.to read.is))

-- Two terms: the first is refused, or it was read to row j and the second gives the span of both.
module _ (l : Limits) (v levels : ℕ) (outer : Bool) (rows : List ℕ) (i boxes : ℕ) where
  abbrev both : Span
  both = span_of (several (term l v in_rows levels outer) 1 (row_cursor rows i boxes))

  pub first_span : (e : Refusal) → err e ≡ span_of (term l v in_rows levels outer (row_cursor rows i boxes)) → err e ≡ both
  first_span e q = stop_span l v levels outer rows i boxes 2 (omega arith) e q ∙ all_span l v levels outer rows i boxes 2 (omega arith)

  pub second_span : Words rows → (j b : ℕ) → ok (j, b) ≡ span_of (term l v in_rows levels outer (row_cursor rows i boxes)) → span_of (term l v in_rows levels outer (row_cursor rows j b)) ≡ both
  unfolding rest_span
  second_span w j b f = sym (one_span l v levels outer rows j b) ∙ rest_span_law l v levels outer rows i boxes w j b f 2 (omega arith) ∙ all_span l v levels outer rows i boxes 2 (omega arith)
