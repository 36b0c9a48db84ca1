-- The term at a row, by the number that the code finds there: the refusal at the row, or what the row's kind builds from the next row on.
use Prim.Native.Nat.{ℕ, suc, ◌+◌, ◌*◌, ◌-◌, ◌≤◌, ◌<◌}
use native.Mathlib.Omega.{arith}
use mathlib.Core.Path.{◌≡◌, refl, ap, ◌∙◌}
use mathlib.Core.Bool.{Bool, true, false, true≢false, false≢true, not, ◌&&◌, ◌||◌}
use mathlib.Core.Option.{some}
use mathlib.Core.List.{List, [], ◌∷◌, ◌++◌}
use lib.ListN.{length, take, drop, get_or, length-drop, drop_of_length-le}
use lib.Seq.{drop-cons, length-take-le}
use lib.Dec.{leb, eqb}
use borrow.Author.Tests.{leb-true, leb-false, eqb-true, eqb-false, le-leb, lt-leb, lt-ltb}
use Rattle.syntax.specs.Result.{Result, ok, err, Refusal, pick}
use Rattle.syntax.specs.Limits.{Limits, row_numbers}
use Rattle.syntax.specs.Script.{Term}
use Rattle.syntax.specs.Kinds.{Kind, k_number, k_reading, k_copy, k_move, k_shared, k_exclusive, k_box, k_let, k_assign, k_below, k_block, k_choice, k_sum, byte_of, kind_of, fields}
use Rattle.syntax.specs.Layout.{in_rows}
use Rattle.syntax.specs.Reader.{Cursor, place_in, operands, zero_fields, rest_of_row, is, boxes_of, ended, opening, built, term}
use Rattle.syntax.specs.Parts.{cursor, known_in, fields_of}
use Rattle.syntax.specs.RowParts.{field_at, fields_at, fields_fit, row_number, row_cursor, term_rows}
use Rattle.syntax.proofs.KindBytes.{found}
use Rattle.syntax.proofs.KnownKinds.{known_some, known_none, fields_of_law}
use Rattle.syntax.proofs.TermSteps.{past, opening_12, opening_12_row, opening_13, opening_18, opening_ok, term_refused, term_deep, term_boxes, term_operands_refused, term_row_refused, term_built}
use Rattle.syntax.proofs.RowFields.{operands_fit, fit_parts, operands_read, zeros_read}

fields_few : (l : Limits) (k : Kind) → length (fields l k) ≤ 4
unfolding fields
fields_few l k_number = omega arith
fields_few l k_reading = omega arith
fields_few l k_copy = omega arith
fields_few l k_move = omega arith
fields_few l k_shared = omega arith
fields_few l k_exclusive = omega arith
fields_few l k_box = omega arith
fields_few l k_let = omega arith
fields_few l k_assign = omega arith
fields_few l k_below = omega arith
fields_few l k_block = omega arith
fields_few l k_choice = omega arith
fields_few l k_sum = omega arith

row_place_law : (i : ℕ) → place_in in_rows (5 * i) ≡ i
unfolding place_in
row_place_law i = omega arith

-- The boxes met once the kind is counted, by the code's test.
pub boxes_of_law : (v b : ℕ) (k : Kind) → kind_of v b ≡ some k → boxes_of k ≡ pick (eqb b 7) 1 0
unfolding boxes_of is byte_of
boxes_of_law v b k h = rw (found v b k h)

boxes_over : (most : ℕ) (t u : Bool) (b : ℕ) → leb most b ≡ u → (t && u) ≡ true → most < b + pick t 1 0
boxes_over most true true b e h = omega (arith, leb-true most b e)
boxes_over most true false b e h = absurd (false≢true h)
boxes_over most false u b e h = absurd (false≢true h)

boxes_fit : (most : ℕ) (t u : Bool) (b : ℕ) → b ≤ most → leb most b ≡ u → (t && u) ≡ false → b + pick t 1 0 ≤ most
boxes_fit most true true b few e h = absurd (true≢false h)
boxes_fit most true false b few e h = omega (arith, leb-false most b e)
boxes_fit most false u b few e h = omega arith

-- The reader stands at row i, whose fields after the kind are xs. The kind is known, and it may stand here.
module _ (l : Limits) (v : ℕ) (outer : Bool) (i n b x : ℕ) (xs r : List ℕ) (d : ℕ) (k : Kind) where
  abbrev here : Cursor
  here = cursor (x ∷ xs ++ r) (5 * i) n b

  abbrev values : List ℕ
  values = take (length (fields l k)) xs

  abbrev unread : List ℕ
  unread = drop (length (fields l k)) xs

  -- Behind the operands, and behind the row.
  abbrev behind : Cursor
  behind = cursor (unread ++ r) (suc (5 * i) + length (fields l k)) (suc n) (b + boxes_of k)

  abbrev below : Cursor
  below = cursor r (5 * (i + 1)) (suc n) (b + boxes_of k)

  term_fields : length xs ≡ 4 → opening l v in_rows outer here ≡ ok (k, here) → leb (b + boxes_of k) l.boxes ≡ true
      → term l v in_rows (suc d) outer here ≡ pick (fields_fit (fields l k) xs) (built k n values (term l v in_rows d) below) (err (14, i))
  unfolding rest_of_row
  term_fields four o few =
      rw (fit_parts (fields l k) xs enough)
      (go (operands_fit (fields l k) xs) (fields_fit [] unread)
      (operands_read i (suc n) (b + boxes_of k) r (fields l k) xs (suc (5 * i)) enough (omega arith) (omega arith))
      (ap (λ (m : ℕ). zero_fields m behind) left
      ∙ zeros_read i (suc n) (b + boxes_of k) r unread (suc (5 * i) + length (fields l k)) (omega arith) (omega (arith, count))
      ∙ ap (λ (m : ℕ). pick (fields_fit [] unread) (ok (tt, cursor r m (suc n) (b + boxes_of k))) (err (14, i))) (omega (arith, count))))
    where
      enough : length (fields l k) ≤ length xs
      enough = omega (arith, fields_few l k)

      count : length (fields l k) + length unread ≡ 4
      count = omega (arith, enough, length-drop (length (fields l k)) xs)

      left : 4 - length values ≡ length unread
      left = omega (arith, count, length-take-le (length (fields l k)) xs enough)

      go : (t u : Bool) → operands in_rows (fields l k) (past k here) ≡ pick t (ok (values, behind)) (err (14, i))
          → rest_of_row in_rows (length values) behind ≡ pick u (ok (tt, below)) (err (14, i))
          → term l v in_rows (suc d) outer here ≡ pick (t && u) (built k n values (term l v in_rows d) below) (err (14, i))
      go true true p q = term_built l v in_rows outer here k o d few values behind p below q
      go true false p q = term_row_refused l v in_rows outer here k o d few values behind p (14, i) q
      go false u p q = term_operands_refused l v in_rows outer here k o d few (14, i) p

-- Row i of full rows, in front of the rows after it.
module _ (n : ℕ) (rows : List ℕ) (i : ℕ) (full : length rows ≡ 5 * n) where
  field_first : (j k : ℕ) → j < 5 * n → suc j ≡ k → drop j rows ≡ get_or rows j 0 ∷ drop k rows
  field_first j k h e = drop-cons rows j 0 (omega arith) ∙ ap (λ (m : ℕ). get_or rows j 0 ∷ drop m rows) e

  row_split : i < n → drop (5 * i) rows ≡ field_at rows i 0 ∷ fields_at rows i ++ drop (5 * (i + 1)) rows
  row_split h =
      let e : 5 * i ≡ 5 * i + 0 = omega arith in
      ap (λ (m : ℕ). drop m rows) e ∙ field_first (5 * i + 0) (5 * i + 1) (omega arith) (omega arith)
      ∙ ap (λ (ys : List ℕ). field_at rows i 0 ∷ ys) (field_first (5 * i + 1) (5 * i + 2) (omega arith) (omega arith))
      ∙ ap (λ (ys : List ℕ). field_at rows i 0 ∷ field_at rows i 1 ∷ ys) (field_first (5 * i + 2) (5 * i + 3) (omega arith) (omega arith))
      ∙ ap (λ (ys : List ℕ). field_at rows i 0 ∷ field_at rows i 1 ∷ field_at rows i 2 ∷ ys) (field_first (5 * i + 3) (5 * i + 4) (omega arith) (omega arith))
      ∙ ap (λ (ys : List ℕ). field_at rows i 0 ∷ field_at rows i 1 ∷ field_at rows i 2 ∷ field_at rows i 3 ∷ ys) (field_first (5 * i + 4) (5 * (i + 1)) (omega arith) (omega arith))

-- What `not` says of a test.
denied : (t : Bool) → not t ≡ true → t ≡ false
denied true h = absurd (false≢true h)
denied false h = refl

granted : (t : Bool) → not t ≡ false → t ≡ true
granted true h = refl
granted false h = absurd (true≢false h)

-- What a row is whose number is 0: its kind, and what that builds.
pub record Enters (l : Limits) (v levels : ℕ) (outer : Bool) (rows : List ℕ) (i boxes : ℕ) : Type 0 where
  pub kind : Kind
  pub is : kind_of v (field_at rows i 0) ≡ some kind
  pub room : i < l.terms
  pub deep : 0 < levels
  pub few : boxes + boxes_of kind ≤ l.boxes
  pub fit : fields_fit (fields l kind) (fields_at rows i) ≡ true
  pub builds : term_rows l v levels outer rows i boxes ≡ built kind i (take (length (fields l kind)) (fields_at rows i)) (term l v in_rows (levels - 1)) (row_cursor rows (i + 1) (boxes + boxes_of kind))

-- What a number found at the row says of the term there.
pub record Judges (l : Limits) (v levels : ℕ) (outer : Bool) (rows : List ℕ) (i boxes n : ℕ) : Type 0 where
  pub refuses : (n ≡ 0 → ⊥) → term_rows l v levels outer rows i boxes ≡ err (n, i)
  pub enters : n ≡ 0 → Enters l v levels outer rows i boxes

module _ (l : Limits) (v levels : ℕ) (outer : Bool) (rows : List ℕ) (i boxes : ℕ) (full : length rows ≡ row_numbers l) (few : boxes ≤ l.boxes) where
  abbrev Row : ℕ → Type 0
  Row n = Judges l v levels outer rows i boxes n

  refused : (n : ℕ) → 0 < n → term_rows l v levels outer rows i boxes ≡ err (n, i) → Row n
  refused n h e = record { refuses = λ z. e; enters = λ z. absurd (omega arith) }

  -- A test comes first.
  choose : (t : Bool) (m n : ℕ) → (t ≡ true → Row m) → (t ≡ false → Row n) → Row (pick t m n)
  choose true m n f g = f refl
  choose false m n f g = g refl

  at_end : l.terms ≤ i → Row 12
  unfolding row_numbers
  at_end h =
      let z : length rows ≤ 5 * i = omega arith in
      let e = opening_12 l v in_rows outer (row_cursor rows i boxes) (drop_of_length-le rows z) in
      refused 12 (omega arith) (term_refused l v in_rows outer _ levels _ e ∙ ap (λ (p : ℕ). err (12, p)) (row_place_law i))

  module _ (room : i < l.terms) where
    abbrev s : Cursor
    s = row_cursor rows i boxes

    abbrev after : List ℕ
    after = fields_at rows i ++ drop (5 * (i + 1)) rows

    split : s.rest ≡ field_at rows i 0 ∷ after
    unfolding row_numbers
    split = row_split l.terms rows i full room

    stopped : (n : ℕ) → 0 < n → opening l v in_rows outer s ≡ err (n, place_in in_rows (5 * i)) → Row n
    stopped n h e = refused n h (term_refused l v in_rows outer s levels _ e ∙ ap (λ (p : ℕ). err (n, p)) (row_place_law i))

    kind_zero : field_at rows i 0 ≡ 0 → Row 12
    kind_zero z = stopped 12 (omega arith) (opening_12_row l v outer s (field_at rows i 0) after split z)

    kind_unknown : eqb (field_at rows i 0) 0 ≡ false → known_in v (field_at rows i 0) ≡ false → Row 13
    unfolding ended
    kind_unknown z h = stopped 13 (omega arith) (opening_13 l v in_rows outer s (field_at rows i 0) after split z (known_none (field_at rows i 0) v h))

    -- The kind is k.
    module _ (k : Kind) (h : kind_of v (field_at rows i 0) ≡ some k) where
      may_stand : (not outer || is k k_block) ≡ not (outer && not (eqb (field_at rows i 0) 11))
      unfolding is byte_of
      may_stand = rw (found v (field_at rows i 0) k h) (deny outer (eqb (field_at rows i 0) 11))
        where
          deny : (a b : Bool) → (not a || b) ≡ not (a && not b)
          deny true true = refl
          deny true false = refl
          deny false b = refl

      no_block : (outer && not (eqb (field_at rows i 0) 11)) ≡ true → Row 18
      no_block t = stopped 18 (omega arith) (opening_18 l v in_rows outer s (field_at rows i 0) after split k h (may_stand ∙ ap not t))

      module _ (stands : (outer && not (eqb (field_at rows i 0) 11)) ≡ false) where
        opens : opening l v in_rows outer s ≡ ok (k, s)
        opens = opening_ok l v in_rows outer s (field_at rows i 0) after split k h (may_stand ∙ ap not stands) (lt-ltb i l.terms room)

        too_deep : levels ≡ 0 → Row 15
        too_deep z = refused 15 (omega arith) (ap (λ (d : ℕ). term l v in_rows d outer s) z ∙ term_deep l v in_rows outer s k opens ∙ ap (λ (p : ℕ). err (15, p)) (row_place_law i))

        module _ (d : ℕ) (level : levels ≡ suc d) where
          too_many : l.boxes < boxes + boxes_of k → Row 17
          too_many z =
              refused 17 (omega arith)
              (ap (λ (e : ℕ). term l v in_rows e outer s) level ∙ term_boxes l v in_rows outer s k opens d (lt-leb (boxes + boxes_of k) l.boxes z) ∙ ap (λ (p : ℕ). err (17, p)) (row_place_law i))

          module _ (fits : boxes + boxes_of k ≤ l.boxes) where
            abbrev inner : Result Refusal (Term × Cursor)
            inner = built k i (take (length (fields l k)) (fields_at rows i)) (term l v in_rows (levels - 1)) (row_cursor rows (i + 1) (boxes + boxes_of k))

            by_fields : term_rows l v levels outer rows i boxes ≡ pick (fields_fit (fields l k) (fields_at rows i)) inner (err (14, i))
            by_fields =
                let e : suc i ≡ i + 1 = omega arith in
                let f : d ≡ levels - 1 = omega arith in
                ap (λ (m : ℕ). term l v in_rows m outer s) level
                ∙ ap (λ (ys : List ℕ). term l v in_rows (suc d) outer (cursor ys (5 * i) i boxes)) split
                ∙ term_fields l v outer i i boxes (field_at rows i 0) (fields_at rows i) (drop (5 * (i + 1)) rows) d k refl (rw split at opens) (le-leb (boxes + boxes_of k) l.boxes fits)
                ∙ rw (e, f)

            misfit : fields_fit (fields l k) (fields_at rows i) ≡ false → Row 14
            misfit t = refused 14 (omega arith) (by_fields ∙ ap (λ (u : Bool). pick u inner (err (14, i))) t)

            entered : fields_fit (fields l k) (fields_at rows i) ≡ true → Row 0
            entered t = record {
              refuses = λ z. absurd (z refl);
              enters = λ z. record { kind = k; is = h; room = room; deep = omega arith; few = fits; fit = t; builds = by_fields ∙ ap (λ (u : Bool). pick u inner (err (14, i))) t };
            }

  -- The tests for 18, 15, 17 and 14, at a row whose kind is k.
  of_kind : i < l.terms → (k : Kind) → kind_of v (field_at rows i 0) ≡ some k
      → Row (pick (outer && not (eqb (field_at rows i 0) 11)) 18 (pick (eqb levels 0) 15 (pick (eqb (field_at rows i 0) 7 && leb l.boxes boxes) 17 (pick (fields_fit (fields_of l (field_at rows i 0)) (fields_at rows i)) 0 14))))
  of_kind room k h =
      let b = field_at rows i 0 in
      choose (outer && not (eqb b 11)) 18 _ (no_block room k h) λ st.
      choose (eqb levels 0) 15 _ (λ t. too_deep room k h st (eqb-true levels 0 t)) λ q.
      let level : levels ≡ suc (levels - 1) = omega (arith, eqb-false levels 0 q) in
      let e : boxes_of k ≡ pick (eqb b 7) 1 0 = boxes_of_law v b k h in
      choose (eqb b 7 && leb l.boxes boxes) 17 _ (λ t. too_many room k h st (levels - 1) level (rw e (boxes_over l.boxes (eqb b 7) (leb l.boxes boxes) boxes refl t))) λ m.
      let fits : boxes + boxes_of k ≤ l.boxes = rw e (boxes_fit l.boxes (eqb b 7) (leb l.boxes boxes) boxes few refl m) in
      rw (fields_of_law b l v k h)
      (choose (fields_fit (fields l k) (fields_at rows i)) 0 14 (entered room k h st (levels - 1) level fits) (misfit room k h st (levels - 1) level fits))

  pub row_judged : Row (row_number l v levels outer rows i boxes)
  unfolding row_number
  row_judged =
      let b = field_at rows i 0 in
      choose (leb l.terms i) 12 _ (λ t. at_end (leb-true l.terms i t)) λ f.
      let room = leb-false l.terms i f in
      choose (eqb b 0) 12 _ (λ t. kind_zero room (eqb-true b 0 t)) λ z.
      choose (not (known_in v b)) 13 _ (λ t. kind_unknown room z (denied (known_in v b) t)) λ w.
      let o = known_some b v (granted (known_in v b) w) in
      of_kind room o.0 o.1
