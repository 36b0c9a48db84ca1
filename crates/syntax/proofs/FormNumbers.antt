-- The numbers of refusals of the form (LANGUAGE 5.4): reading refuses with 10 to 19 only, judging rows with 12 to 19.
use Prim.Native.Nat.{ℕ, zero, suc, ◌≤◌}
use mathlib.Core.Path.{◌≡◌}
use mathlib.Core.Bool.{Bool}
use mathlib.Core.Option.{Option, none, some}
use mathlib.Core.List.{List, [], ◌∷◌}
use lib.Dec.{T, leb}
use Rattle.syntax.specs.Result.{err, Refusal}
use Rattle.syntax.specs.Limits.{Limits}
use Rattle.syntax.specs.Script.{Term}
use Rattle.syntax.specs.Kinds.{newest, Kind, k_number, k_reading, k_copy, k_move, k_shared, k_exclusive, k_box, k_let, k_assign, k_below, k_block, k_choice, k_sum, Field, word, until}
use Rattle.syntax.specs.Layout.{Form, in_bytes, in_rows}
use Rattle.syntax.specs.Reader.{Cursor, Reads, ◌>>=◌ as ◌&◌, done, expect, first, peek, skip, next, ranged, field, operands, zero_fields, rest_of_row, known, kind, opening, counted, several, built, term, nothing_left, over, script, mark, version, leading, whole_script, answer, parse, decode_in, decode}
use Rattle.syntax.proofs.NumberRanges.{Only, fine, stopped, wider, onward, steps}

-- A chain of the reader: the same wherever each step begins.
reads : {a b : ℕ} {A B : Type 0} {m : Reads A} {f : A → Reads B} → ((s : Cursor) → Only a b (m s)) → ((x : A) (s : Cursor) → Only a b (f x s)) → (s : Cursor) → Only a b ((m & f) s)
unfolding ◌&◌
reads h k s = onward (h s) (λ r. k r.0 r.1)

ruleset read-steps = (steps, reads)

first_only : {a b : ℕ} (xs : List ℕ) (n i : ℕ) → T (leb a n) → T (leb n b) → Only a b (first xs (n, i))
unfolding first
first_only [] n i h k = stopped (n, i) h k
first_only (x ∷ xs) n i h k = fine x

known_only : (o : Option Kind) (i : ℕ) → Only 12 19 (known o (13, i))
unfolding known
known_only none i = search steps
known_only (some k) i = search steps

ruleset of-reading = (read-steps, first_only, known_only)

-- The steps of the reader that ask for no law of their own are unfolded where they stand.
field_only : (w : Form) (f : Field) (s : Cursor) → Only 12 19 (field w f s)
unfolding field next ranged peek expect skip done
field_only in_bytes word = search of-reading depth 8
field_only in_rows word = search of-reading
field_only in_bytes (until x y) = search of-reading
field_only in_rows (until x y) = search of-reading

operands_only : (w : Form) (fs : List Field) (s : Cursor) → Only 12 19 (operands w fs s)
unfolding operands done
operands_only w [] = search of-reading
operands_only w (f ∷ fs) = search (of-reading, field_only, operands_only w fs)

zero_fields_law : (n : ℕ) (s : Cursor) → Only 12 19 (zero_fields n s)
unfolding zero_fields ranged peek expect skip done
zero_fields_law zero = search of-reading
zero_fields_law (suc n) = search (of-reading, zero_fields_law n) depth 8

rest_only : (w : Form) (n : ℕ) (s : Cursor) → Only 12 19 (rest_of_row w n s)
unfolding rest_of_row done
rest_only in_bytes n = search of-reading
rest_only in_rows n = zero_fields_law _

module _ (t : Reads Term) (h : (s : Cursor) → Only 12 19 (t s)) where
  several_only : (n : ℕ) (s : Cursor) → Only 12 19 (several t n s)
  unfolding several done
  several_only zero = search of-reading
  several_only (suc n) = search (of-reading, several_only n)

module _ (inner : Bool → Reads Term) (h : (o : Bool) (s : Cursor) → Only 12 19 (inner o s)) where
  built_only : (k : Kind) (i : ℕ) (vs : List ℕ) (s : Cursor) → Only 12 19 (built k i vs inner s)
  unfolding built done
  built_only k_number i vs = search of-reading
  built_only k_reading i vs = search of-reading
  built_only k_copy i vs = search of-reading
  built_only k_move i vs = search of-reading
  built_only k_shared i vs = search of-reading
  built_only k_exclusive i vs = search of-reading
  built_only k_box i vs = search of-reading
  built_only k_let i vs = search of-reading
  built_only k_assign i vs = search of-reading
  built_only k_below i vs = search of-reading
  built_only k_sum i vs = search of-reading
  built_only k_block i vs = search (of-reading, several_only)
  built_only k_choice i vs = search of-reading

opening_only : (l : Limits) (v : ℕ) (w : Form) (outer : Bool) (s : Cursor) → Only 12 19 (opening l v w outer s)
unfolding opening kind peek expect done
opening_only l v w outer = search of-reading depth 8

-- By the levels: the terms inside have one fewer.
term_only : (l : Limits) (v : ℕ) (w : Form) (d : ℕ) (outer : Bool) (s : Cursor) → Only 12 19 (term l v w d outer s)
unfolding term expect counted skip
term_only l v w zero outer = search (of-reading, opening_only)
term_only l v w (suc d) outer = search (of-reading, opening_only, operands_only, rest_only, built_only, term_only l v w d) depth 8

nothing_left_law : (w : Form) (k : ℕ) (xs : List ℕ) → Only 12 19 (nothing_left w k xs)
unfolding nothing_left
nothing_left_law in_bytes k [] = search steps
nothing_left_law in_bytes k (x ∷ xs) = search steps
nothing_left_law in_rows k [] = search steps
nothing_left_law in_rows k (x ∷ xs) = onward (search steps) (λ u. nothing_left_law in_rows (suc k) xs)

tree_only : (l : Limits) (v : ℕ) (w : Form) (s : Cursor) → Only 12 19 (script l v w s)
unfolding script over done
tree_only l v w = search (read-steps, nothing_left_law, term_only)

pub decode_only : (l : Limits) (v : ℕ) (rows : List ℕ) → Only 12 19 (decode_in l v rows)
unfolding decode_in answer
decode_only l v rows = search (steps, tree_only)

-- Bytes have the mark (10) and the version (11) before the term.
whole_only : (l : Limits) (n : ℕ) (s : Cursor) → Only 10 19 (whole_script l n s)
unfolding whole_script leading mark version next peek expect skip done
whole_only l n = reads (search (read-steps, first_only) depth 8) (λ v. reads (λ s. wider (tree_only l v in_bytes s) tt tt) (λ t. search steps))

pub parse_only : (l : Limits) (n : ℕ) (bs : List ℕ) → Only 10 19 (parse l n bs)
unfolding parse answer
parse_only l n bs = search (steps, whole_only)

-- The numbers that reading can answer (LANGUAGE 5.4): 10 to 19.
pub read_numbers : (l : Limits) (n : ℕ) (bs : List ℕ) (e : Refusal) → parse l n bs ≡ err e → (10 ≤ e.0) × (e.0 ≤ 19)
read_numbers l n bs = (parse_only l n bs).number_in

-- The numbers that judging rows can answer (LANGUAGE 5.4): 12 to 19.
pub form_numbers : (l : Limits) (rows : List ℕ) (e : Refusal) → decode l rows ≡ err e → (12 ≤ e.0) × (e.0 ≤ 19)
unfolding decode
form_numbers l rows = (decode_only l newest rows).number_in
