-- A term in bytes, from its head on: what the term reader's code answers is what `term` answers, by the kind of the term.
use Prim.Native.Nat.{ℕ, zero, suc, ◌+◌, ◌-◌, ◌*◌, ◌≤◌, ◌<◌}
use native.Mathlib.Omega.{arith}
use native.Mathlib.Numerals.{add-one}
use mathlib.Core.Path.{◌≡◌, refl, sym, ap, ap₂, ◌∙◌, subst}
use mathlib.Core.Bool.{Bool, true, false}
use mathlib.Core.List.{List, [], ◌∷◌, ◌++◌}
use lib.ListN.{length, get_or, take, drop, length-drop}
use lib.Seq.{sets}
use borrow.Author.Tests.{leb-true}
use Rattle.syntax.specs.Result.{ok, err}
use Rattle.syntax.specs.Limits.{Limits, row_numbers}
use Rattle.syntax.specs.Script.{Term, Terms, number, block, last, more}
use Rattle.syntax.specs.Kinds.{Kind, k_number, k_reading, k_copy, k_move, k_shared, k_exclusive, k_box, k_let, k_assign, k_below, k_block, k_choice, k_sum, byte_of, Field, fields}
use Rattle.syntax.specs.Layout.{in_bytes, in_rows, zeros, word_of, unused, head, others, lay, lays}
use Rattle.syntax.specs.Reader.{Cursor, Reads, is, boxes_of, several, built, term}
use Rattle.syntax.specs.Parts.{cursor, fields_of, boxes_with}
use Rattle.syntax.specs.ByteParts.{opening_number, judged_fields, one_field, values_at, row_with, Ready, Got, got_of, RowsAfter, Reading, read_term, read_block, read_branches}
use Rattle.syntax.specs.ByteParts as got
use Rattle.syntax.proofs.TermSteps.{Leaf, leaf_number, leaf_reading, leaf_copy, leaf_move, leaf_shared, leaf_exclusive, leaf_below, leaf_sum, Around, around_box, around_let, around_assign, wrapped, leaf_ok, around_err, around_ok, block_err, block_ok}
use Rattle.syntax.proofs.Answers.{ran, is_done}
use Rattle.syntax.proofs.Lists.{part_all, under_drop}
use Rattle.syntax.proofs.Sound.{block_read}
use Rattle.syntax.proofs.Branches.{branched, branches_err, branches_ok, branches_laid}
use Rattle.syntax.proofs.BlockLaws.{framed}
use Rattle.syntax.proofs.KnownKinds.{fields_of_law}
use Rattle.syntax.proofs.ByteLaws.{Clear, fields_within, one_range, opening_refused, term_stops, term_goes}

-- ---- kinds by their bytes

pub around_kind : (k : Kind) → 7 ≤ byte_of k → (byte_of k ≡ 10 → ⊥) → (byte_of k ≡ 11 → ⊥) → (byte_of k ≡ 12 → ⊥) → (byte_of k ≡ 13 → ⊥) → Around k
unfolding byte_of
around_kind k_number a b c d e = absurd (omega arith)
around_kind k_reading a b c d e = absurd (omega arith)
around_kind k_copy a b c d e = absurd (omega arith)
around_kind k_move a b c d e = absurd (omega arith)
around_kind k_shared a b c d e = absurd (omega arith)
around_kind k_exclusive a b c d e = absurd (omega arith)
around_kind k_box a b c d e = around_box
around_kind k_let a b c d e = around_let
around_kind k_assign a b c d e = around_assign
around_kind k_below a b c d e = absurd (b refl)
around_kind k_block a b c d e = absurd (c refl)
around_kind k_choice a b c d e = absurd (d refl)
around_kind k_sum a b c d e = absurd (e refl)

pub leaf_kind : (k : Kind) → (7 ≤ byte_of k → 9 < byte_of k) → (byte_of k ≡ 11 → ⊥) → (byte_of k ≡ 12 → ⊥) → Leaf k
unfolding byte_of
leaf_kind k_number a b c = leaf_number
leaf_kind k_reading a b c = leaf_reading
leaf_kind k_copy a b c = leaf_copy
leaf_kind k_move a b c = leaf_move
leaf_kind k_shared a b c = leaf_shared
leaf_kind k_exclusive a b c = leaf_exclusive
leaf_kind k_box a b c = absurd (omega (arith, a (omega arith)))
leaf_kind k_let a b c = absurd (omega (arith, a (omega arith)))
leaf_kind k_assign a b c = absurd (omega (arith, a (omega arith)))
leaf_kind k_below a b c = leaf_below
leaf_kind k_block a b c = absurd (b refl)
leaf_kind k_choice a b c = absurd (c refl)
leaf_kind k_sum a b c = leaf_sum

pub block_kind : (k : Kind) → byte_of k ≡ 11 → k ≡ k_block
unfolding byte_of
block_kind k_number e = absurd (omega arith)
block_kind k_reading e = absurd (omega arith)
block_kind k_copy e = absurd (omega arith)
block_kind k_move e = absurd (omega arith)
block_kind k_shared e = absurd (omega arith)
block_kind k_exclusive e = absurd (omega arith)
block_kind k_box e = absurd (omega arith)
block_kind k_let e = absurd (omega arith)
block_kind k_assign e = absurd (omega arith)
block_kind k_below e = absurd (omega arith)
block_kind k_block e = refl
block_kind k_choice e = absurd (omega arith)
block_kind k_sum e = absurd (omega arith)

pub choice_kind : (k : Kind) → byte_of k ≡ 12 → k ≡ k_choice
unfolding byte_of
choice_kind k_number e = absurd (omega arith)
choice_kind k_reading e = absurd (omega arith)
choice_kind k_copy e = absurd (omega arith)
choice_kind k_move e = absurd (omega arith)
choice_kind k_shared e = absurd (omega arith)
choice_kind k_exclusive e = absurd (omega arith)
choice_kind k_box e = absurd (omega arith)
choice_kind k_let e = absurd (omega arith)
choice_kind k_assign e = absurd (omega arith)
choice_kind k_below e = absurd (omega arith)
choice_kind k_block e = absurd (omega arith)
choice_kind k_choice e = refl
choice_kind k_sum e = absurd (omega arith)

pub with_boxes : (k : Kind) (b : ℕ) → boxes_with (byte_of k) b ≡ b + boxes_of k
unfolding boxes_with boxes_of is byte_of
with_boxes k_number b = omega arith
with_boxes k_reading b = omega arith
with_boxes k_copy b = omega arith
with_boxes k_move b = omega arith
with_boxes k_shared b = omega arith
with_boxes k_exclusive b = omega arith
with_boxes k_box b = refl
with_boxes k_let b = omega arith
with_boxes k_assign b = omega arith
with_boxes k_below b = omega arith
with_boxes k_block b = omega arith
with_boxes k_choice b = omega arith
with_boxes k_sum b = omega arith

pub leaf_boxes : {k : Kind} → Leaf k → boxes_of k ≡ 0
unfolding boxes_of is byte_of
leaf_boxes leaf_number = refl
leaf_boxes leaf_reading = refl
leaf_boxes leaf_copy = refl
leaf_boxes leaf_move = refl
leaf_boxes leaf_shared = refl
leaf_boxes leaf_exclusive = refl
leaf_boxes leaf_below = refl
leaf_boxes leaf_sum = refl

-- ---- rows of a term

module _ (l : Limits) (n : ℕ) (t : List ℕ) (x : Term) where
  laid_leaf : {k : Kind} → Leaf k → lay in_rows (wrapped k n (values_at (fields l k) t 1) x) ≡ head in_rows k (values_at (fields l k) t 1)
  unfolding lay wrapped fields values_at word_of
  laid_leaf leaf_number = refl
  laid_leaf leaf_reading = refl
  laid_leaf leaf_copy = refl
  laid_leaf leaf_move = refl
  laid_leaf leaf_shared = refl
  laid_leaf leaf_exclusive = refl
  laid_leaf leaf_below = refl
  laid_leaf leaf_sum = refl

  laid_around : {k : Kind} → Around k → lay in_rows (wrapped k n (values_at (fields l k) t 1) x) ≡ head in_rows k (values_at (fields l k) t 1) ++ lay in_rows x
  unfolding lay wrapped fields values_at
  laid_around around_box = refl
  laid_around around_let = refl
  laid_around around_assign = refl

five : (l : Limits) (k : Kind) (t : List ℕ) → length (head in_rows k (values_at (fields l k) t 1)) ≡ 5
unfolding head fields values_at unused zeros
five l k_number t = refl
five l k_reading t = refl
five l k_copy t = refl
five l k_move t = refl
five l k_shared t = refl
five l k_exclusive t = refl
five l k_box t = refl
five l k_let t = refl
five l k_assign t = refl
five l k_below t = refl
five l k_block t = refl
five l k_choice t = refl
five l k_sum t = refl

block_boxes : (b : ℕ) → b + boxes_of k_block ≡ b
unfolding boxes_of is byte_of
block_boxes b = omega arith

choice_boxes : (b : ℕ) → b + boxes_of k_choice ≡ b
unfolding boxes_of is byte_of
choice_boxes b = omega arith

-- A block has as many terms as were asked for.
count_says : (inner : Reads Term) (n : ℕ) (s s' : Cursor) (ts : Terms) → several inner n s ≡ ok (ts, s') → others ts ≡ n
unfolding several others
count_says inner zero s s' ts h =
    let a = ran inner _ s _ h in
    sym (ap others (is_done (last a.0) ts a.1 s' a.3).0)
count_says inner (suc n) s s' ts h =
    let a = ran inner _ s _ h in
    let b = ran (several inner n) _ a.1 _ a.3 in
    sym (ap others (is_done (more a.0 b.0) ts b.1 s' b.3).0) ∙ ap suc (count_says inner n a.1 b.1 b.0 b.2)

-- ---- a term whose head is read

-- The head of the term that begins t is read up to `used`.
pub record Head (l : Limits) (v levels : ℕ) (outer : Bool) (t : List ℕ) (at n b used : ℕ) : Type 0 where
  pub k : Kind
  pub byte : byte_of k ≡ get_or t 0 0
  pub operands : fields_of l (get_or t 0 0) ≡ fields l k
  pub low : 1 ≤ used
  pub within : used ≤ length t
  pub deep : 0 < levels
  pub room : n < l.terms
  pub few : b + boxes_of k ≤ l.boxes
  pub several : k ≡ k_block → 1 ≤ get_or t 1 0
  pub is : term l v in_bytes levels outer (cursor t at n b) ≡ built k n (values_at (fields l k) t 1) (term l v in_bytes (levels - 1)) (cursor (drop used t) (at + used) (suc n) (b + boxes_of k))

-- The kind byte is refused.
pub number_refused : (l : Limits) (v levels : ℕ) (outer : Bool) (t : List ℕ) (at n b m : ℕ) (rows : List ℕ) → b ≤ l.boxes → m ≡ opening_number l v levels outer t n b → (m ≡ 0 → ⊥) → Reading (lay in_rows) (read_term l v levels outer t at n b) n rows rows (got.Refused m at)
unfolding got_of RowsAfter
number_refused l v levels outer t at n b zero rows h e z = absurd (z refl)
number_refused l v levels outer t at n b (suc m) rows h e z = rw (opening_refused l v levels outer t at n b h m (sym e)) (refl, tt)

-- The operands are refused.
pub operand_refused : (l : Limits) (v levels : ℕ) (outer : Bool) (t : List ℕ) (at n b m p : ℕ) (rows rows₁ : List ℕ) → Clear l v levels outer t at n b → judged_fields (fields_of l (get_or t 0 0)) t at 1 ≡ err (m, p) → Reading (lay in_rows) (read_term l v levels outer t at n b) n rows rows₁ (got.Refused m p)
unfolding got_of RowsAfter
operand_refused l v levels outer t at n b m p rows rows₁ c e = rw (term_stops c m p e) (refl, tt)

-- The head is read where nothing is wrong at the kind byte and in the operands.
pub head_of : (l : Limits) (v levels : ℕ) (outer : Bool) (t : List ℕ) (at n b : ℕ) → Clear l v levels outer t at n b → (used : ℕ) → judged_fields (fields_of l (get_or t 0 0)) t at 1 ≡ ok used → Head l v levels outer t at n b used
unfolding fields
head_of l v levels outer t at n b c used f =
    let w = fields_within t at (fields_of l (get_or t 0 0)) 1 used f c.bytes in
    record {
      k = c.k;
      byte = c.byte;
      operands = fields_of_law (get_or t 0 0) l v c.k c.kind;
      low = w.0;
      within = w.1;
      deep = c.deep;
      room = c.room;
      few = leb-true _ _ c.few;
      several = λ e. (one_range t at 1 256 1 used (ap (λ (fs : List Field). judged_fields fs t at 1) (sym (block_fields c e)) ∙ f)).0;
      is = term_goes c used f;
    }
  where
    block_fields : (c : Clear l v levels outer t at n b) → c.k ≡ k_block → fields_of l (get_or t 0 0) ≡ one_field 1 256
    block_fields c e = fields_of_law (get_or t 0 0) l v c.k c.kind ∙ ap (fields l) e

module _ (l : Limits) (v levels : ℕ) (outer : Bool) (t : List ℕ) (at n b used : ℕ) (h : Head l v levels outer t at n b used)
    (rows rows₁ : List ℕ) (e₁ : rows₁ ≡ sets rows (n * 5) (row_with (get_or t 0 0) (values_at (fields_of l (get_or t 0 0)) t 1))) where
  row_is : row_with (get_or t 0 0) (values_at (fields_of l (get_or t 0 0)) t 1) ≡ head in_rows h.k (values_at (fields l h.k) t 1)
  unfolding head unused
  row_is = rw (h.operands, ← h.byte)

  rows_is : rows₁ ≡ sets rows (n * 5) (head in_rows h.k (values_at (fields l h.k) t 1))
  rows_is = e₁ ∙ ap (sets rows (n * 5)) row_is

  pub leaf_returns : Leaf h.k → Reading (lay in_rows) (read_term l v levels outer t at n b) n rows rows₁ (got.Fine (at + used) (n + 1) b)
  unfolding got_of RowsAfter
  leaf_returns f =
      let s : Cursor = cursor (drop used t) (at + used) (suc n) (b + boxes_of h.k) in
      let w : read_term l v levels outer t at n b ≡ ok (wrapped h.k n (values_at (fields l h.k) t 1) (number 0 0), s) = h.is ∙ leaf_ok n _ _ s f (number 0 0) in
      let e : n + 1 ≡ suc n = add-one n in
      let z : b ≡ b + boxes_of h.k = omega (arith, leaf_boxes f) in
      rw w (ap₂ (got.Fine (at + used)) e z, rows_is ∙ ap (sets rows (n * 5)) (sym (laid_leaf l n t (number 0 0) f)))

  -- The part that the code hands on.
  abbrev Part : List ℕ
  Part = take (length t - used) (drop used t)

  pub around_returns : Around h.k → (rows₂ : List ℕ) (r : Got)
      → Reading (lay in_rows) (read_term l v (levels - 1) false Part (at + used) (n + 1) (boxes_with (get_or t 0 0) b)) (n + 1) rows₁ rows₂ r
      → Reading (lay in_rows) (read_term l v levels outer t at n b) n rows rows₂ r
  around_returns a rows₂ r q =
      let s : Cursor = cursor (drop used t) (at + used) (suc n) (b + boxes_of h.k) in
      let e : cursor Part (at + used) (n + 1) (boxes_with (get_or t 0 0) b) ≡ s = rw (part_all, add-one, ← h.byte, with_boxes) in
      let vs = values_at (fields l h.k) t 1 in
      framed (lay in_rows) (lay in_rows) (wrapped h.k n vs) (head in_rows h.k vs) (term l v in_bytes (levels - 1) false s) (read_term l v levels outer t at n b)
      (λ e o. h.is ∙ around_err n vs _ s a e o) (λ x s' o. h.is ∙ around_ok n vs _ s a x s' o) (λ x s' o. laid_around l n t x a) (five l h.k t)
      n (n + 1) refl rows rows₁ rows₂ rows_is r (subst (λ (c : Cursor). Reading (lay in_rows) (term l v in_bytes (levels - 1) false c) (n + 1) rows₁ rows₂ r) e q)

  pub block_returns : h.k ≡ k_block → (rows₂ : List ℕ) (r : Got)
      → Reading (lays in_rows) (read_block l v (levels - 1) (get_or t 1 0) Part (at + used) (n + 1) b) (n + 1) rows₁ rows₂ r
      → Reading (lay in_rows) (read_term l v levels outer t at n b) n rows rows₂ r
  unfolding lay fields values_at
  block_returns k rows₂ r q =
      let s : Cursor = cursor (drop used t) (at + used) (suc n) b in
      let z : b + boxes_of h.k ≡ b = rw k (block_boxes b) in
      let e : cursor Part (at + used) (n + 1) b ≡ s = rw (part_all, add-one) in
      let i : read_term l v levels outer t at n b ≡ built k_block n (get_or t 1 0 ∷ []) (term l v in_bytes (levels - 1)) s = h.is ∙ ap (λ (c : ℕ). built h.k n (values_at (fields l h.k) t 1) (term l v in_bytes (levels - 1)) (cursor (drop used t) (at + used) (suc n) c)) z ∙ ap (λ (c : Kind). built c n (values_at (fields l c) t 1) (term l v in_bytes (levels - 1)) s) k in
      framed (lays in_rows) (lay in_rows) (block n) (head in_rows k_block (get_or t 1 0 ∷ [])) (several (term l v in_bytes (levels - 1) false) (get_or t 1 0 - 1) s) (read_term l v levels outer t at n b)
      (λ e o. i ∙ block_err n (get_or t 1 0 ∷ []) _ s e o) (λ ts s' o. i ∙ block_ok n (get_or t 1 0 ∷ []) _ s ts s' o)
      (λ ts s' o. ap (λ (c : ℕ). head in_rows k_block (c ∷ []) ++ lays in_rows ts) (omega (arith, count_says _ _ s s' ts o, h.several k))) (five l k_block t)
      n (n + 1) refl rows rows₁ rows₂ (rows_is ∙ ap (λ (c : Kind). sets rows (n * 5) (head in_rows c (values_at (fields l c) t 1))) k) r
      (subst (λ (c : Cursor). Reading (lays in_rows) (several (term l v in_bytes (levels - 1) false) (get_or t 1 0 - 1) c) (n + 1) rows₁ rows₂ r) e q)

  pub choice_returns : h.k ≡ k_choice → (rows₂ : List ℕ) (r : Got)
      → Reading (lays in_rows) (read_branches l v (levels - 1) Part (at + used) (n + 1) b) (n + 1) rows₁ rows₂ r
      → Reading (lay in_rows) (read_term l v levels outer t at n b) n rows rows₂ r
  unfolding fields values_at
  choice_returns k rows₂ r q =
      let s : Cursor = cursor (drop used t) (at + used) (suc n) b in
      let z : b + boxes_of h.k ≡ b = rw k (choice_boxes b) in
      let e : cursor Part (at + used) (n + 1) b ≡ s = rw (part_all, add-one) in
      let vs : List ℕ = get_or t 1 0 ∷ get_or t 2 0 ∷ [] in
      let i : read_term l v levels outer t at n b ≡ built k_choice n vs (term l v in_bytes (levels - 1)) s = h.is ∙ ap (λ (c : ℕ). built h.k n (values_at (fields l h.k) t 1) (term l v in_bytes (levels - 1)) (cursor (drop used t) (at + used) (suc n) c)) z ∙ ap (λ (c : Kind). built c n (values_at (fields l c) t 1) (term l v in_bytes (levels - 1)) s) k in
      framed (lays in_rows) (lay in_rows) (branched n vs) (head in_rows k_choice vs) (several (term l v in_bytes (levels - 1) true) 1 s) (read_term l v levels outer t at n b)
      (λ e o. i ∙ branches_err n vs _ s e o) (λ ts s' o. i ∙ branches_ok n vs _ s ts s' o)
      (λ ts s' o. branches_laid n vs (term l v in_bytes (levels - 1)) s (block_read l v in_bytes (levels - 1)) ts s' o) (five l k_choice t)
      n (n + 1) refl rows rows₁ rows₂ (rows_is ∙ ap (λ (c : Kind). sets rows (n * 5) (head in_rows c (values_at (fields l c) t 1))) k) r
      (subst (λ (c : Cursor). Reading (lays in_rows) (several (term l v in_bytes (levels - 1) true) 1 c) (n + 1) rows₁ rows₂ r) e q)

  pub inner_ready : Ready l t at b rows → length rows₁ ≡ row_numbers l → Ready l Part (at + used) (boxes_with (get_or t 0 0) b) rows₁
  inner_ready r full =
      rw part_all (record {
        ranges = r.ranges;
        bytes = under_drop 256 used t r.bytes;
        room = omega (arith, r.room, h.within, length-drop used t);
        few = omega (arith, ap (λ (k : ℕ). boxes_with k b) (sym h.byte) ∙ with_boxes h.k b, h.few);
        full = full;
      })

  pub block_ready : Ready l t at b rows → length rows₁ ≡ row_numbers l → Ready l Part (at + used) b rows₁
  block_ready r full =
      rw part_all (record {
        ranges = r.ranges;
        bytes = under_drop 256 used t r.bytes;
        room = omega (arith, r.room, h.within, length-drop used t);
        few = r.few;
        full = full;
      })
