-- Reading a script from its bytes, or from its term rows: the tree, or the refusal (LANGUAGE 5.4) and its place (5.2).
-- Each step judges where the reader stands and then moves on, so the place of a refusal is where it stands; only 11, and 19 in rows,
-- name another.
use Rattle.std.specs.Prelude.{ℕ, zero, suc, ◌+◌, ◌-◌, ◌*◌, ◌/◌, Bool, true, false, not, ◌&&◌, ◌||◌, List, [], ◌∷◌, length, get_or, drop, leb, ltb, eqb}
use Rattle.std.proofs.Math.Option.{Option, none, some}
use Rattle.syntax.specs.Result.{Result, ok, err, need, pick, Refusal, ◌>>=◌ as ◌&◌}
use Rattle.syntax.specs.Limits.{Limits}
use Rattle.syntax.specs.Script.{Place, Term, Terms, Whole, number, reading, copy, move, borrow_shared, borrow_exclusive, box, declare, assign, below, block, choice, sum, last, more}
use Rattle.syntax.specs.Kinds.{Kind, k_number, k_reading, k_copy, k_move, k_shared, k_exclusive, k_box, k_let, k_assign, k_below, k_block, k_choice, k_sum, byte_of, newest, knows, kind_of, Field, word, until, fields}
use Rattle.syntax.specs.Layout.{Form, in_bytes, in_rows}

-- What is left, the next offset, and the terms and boxes met so far, for their limits (LANGUAGE 2.8).
pub record Cursor : Type 0 where
  pub rest : List ℕ
  pub at : ℕ
  pub terms : ℕ
  pub boxes : ℕ

abbrev pub Reads : Type 0 → Type 0
Reads A = Cursor → Result Refusal (A × Cursor)

infixl 20 ◌>>=◌
unfoldable pub ◌>>=◌ : {A B : Type 0} → Reads A → (A → Reads B) → Reads B
◌>>=◌ m f s = ◌&◌ (m s) (λ r. f r.0 r.1)

infixl 20 ◌>>◌
abbrev pub ◌>>◌ : {A B : Type 0} → Reads A → Reads B → Reads B
◌>>◌ m k = m >>= λ u. k

unfoldable pub done : {A : Type 0} → A → Reads A
done a s = ok (a, s)

-- The place of a refusal (LANGUAGE 5.2): the byte offset, or the row.
unfoldable pub place_in : Form → ℕ → ℕ
place_in in_bytes k = k
place_in in_rows k = k / 5

-- Refused with n here unless the test holds.
unfoldable pub expect : Form → (Cursor → Bool) → ℕ → Reads (Unit {0})
expect w test n s = ◌&◌ (need (test s) (n, place_in w s.at)) (λ u. ok (u, s))

unfoldable pub first : List ℕ → Refusal → Result Refusal ℕ
first [] e = err e
first (x ∷ xs) e = ok x

-- 12: no byte is left, or no row (LANGUAGE 5.4).
unfoldable pub peek : Form → Reads ℕ
peek w s = ◌&◌ (first s.rest (12, place_in w s.at)) (λ x. ok (x, s))

unfoldable pub skip : Reads (Unit {0})
skip s = ok (tt, record { rest = drop 1 s.rest; at = suc s.at; terms = s.terms; boxes = s.boxes })

unfoldable pub next : Form → Reads ℕ
next w = do
  v ← peek w
  skip
  done v

-- 14: an operand is out of range (LANGUAGE 5.4), each judged as it comes (5.11).
unfoldable pub ranged : Form → ℕ → ℕ → Reads ℕ
ranged w a b = do
  v ← peek w
  expect w (λ s. leb a v && ltb v b) 14
  skip
  done v

-- An operand (LANGUAGE 2.4): a number is four bytes, or one field.
unfoldable pub field : Form → Field → Reads ℕ
field in_bytes word = do
  a ← next in_bytes
  b ← next in_bytes
  c ← next in_bytes
  d ← next in_bytes
  done (a * 16777216 + b * 65536 + c * 256 + d)
field in_rows word = next in_rows
field in_bytes (until a b) = ranged in_bytes a b
field in_rows (until a b) = ranged in_rows a b

-- The operands of a kind, in order (LANGUAGE 2.2, 5.11).
unfoldable pub operands : Form → List Field → Reads (List ℕ)
operands w [] = done []
operands w (f ∷ fs) = do
  v ← field w f
  vs ← operands w fs
  done (v ∷ vs)

-- 14: an unused field is not 0 (LANGUAGE 2.10, 5.4).
unfoldable pub zero_fields : ℕ → Reads (Unit {0})
zero_fields zero = done tt
zero_fields (suc n) = do
  ranged in_rows 0 1
  zero_fields n

-- The fields of a row after its n operands are not used (LANGUAGE 2.10).
unfoldable pub rest_of_row : Form → ℕ → Reads (Unit {0})
rest_of_row in_bytes n = done tt
rest_of_row in_rows n = zero_fields (4 - n)

unfoldable pub is : Kind → Kind → Bool
is k j = eqb (byte_of k) (byte_of j)

-- A box counts as one, any other kind as none (17; LANGUAGE 2.8).
unfoldable pub boxes_of : Kind → ℕ
boxes_of k = pick (is k k_box) 1 0

-- 12 in rows: the kind is 0 (LANGUAGE 5.4).
unfoldable pub ended : Form → ℕ → Bool
ended in_bytes b = false
ended in_rows b = eqb b 0

unfoldable pub known : Option Kind → Refusal → Result Refusal Kind
known none e = err e
known (some k) e = ok k

-- 13: the version has no such kind (LANGUAGE 5.4).
unfoldable pub kind : ℕ → Form → ℕ → Reads Kind
kind v w b s = ◌&◌ (known (kind_of v b) (13, place_in w s.at)) (λ k. ok (k, s))

-- The order at a kind byte (LANGUAGE 5.10) and in a row (5.12): 12, 13, 18 and 16 here, 15 and 17 in `term`.
unfoldable pub opening : Limits → ℕ → Form → Bool → Reads Kind
opening l v w outer = do
  b ← peek w
  expect w (λ s. not (ended w b)) 12
  k ← kind v w b
  expect w (λ s. not outer || is k k_block) 18
  expect w (λ s. ltb s.terms l.terms) 16
  done k

-- The term's number (LANGUAGE 2.6): terms are counted in the order of their kind bytes.
unfoldable pub counted : Kind → Reads ℕ
counted k s = ok (s.terms, record { rest = s.rest; at = s.at; terms = suc s.terms; boxes = s.boxes + boxes_of k })

-- A block's terms (LANGUAGE 2.3), n after the first.
unfoldable pub several : Reads Term → ℕ → Reads Terms
several t zero = do
  x ← t
  done (last x)
several t (suc n) = do
  x ← t
  xs ← several t n
  done (more x xs)

-- The place in operands j and j + 1 (LANGUAGE 2.5).
abbrev pub place_at : List ℕ → ℕ → Place
place_at vs j = record { root = get_or vs j 0; follows = get_or vs (suc j) 0 }

-- The number and the terms of a block (LANGUAGE 2.3). No other term is read where a block must stand.
unfoldable pub branch : Term → ℕ × Terms
branch (number i n) = (0, last (number i n))
branch (reading i n) = (0, last (reading i n))
branch (copy i p) = (0, last (copy i p))
branch (move i p) = (0, last (move i p))
branch (borrow_shared i p) = (0, last (borrow_shared i p))
branch (borrow_exclusive i p) = (0, last (borrow_exclusive i p))
branch (box i t) = (0, last (box i t))
branch (declare i x t) = (0, last (declare i x t))
branch (assign i p t) = (0, last (assign i p t))
branch (below i p q) = (0, last (below i p q))
branch (block i ts) = (i, ts)
branch (choice i p j us k vs) = (0, last (choice i p j us k vs))
branch (sum i p q) = (0, last (sum i p q))

-- The term of a kind (LANGUAGE 2.3), with its number and operands. `inner` reads an inner term, which must be a block where its argument
-- says so: a branch that is no block is 18 (5.4).
unfoldable pub built : Kind → ℕ → List ℕ → (Bool → Reads Term) → Reads Term
built k_number i vs inner = done (number i (get_or vs 0 0))
built k_reading i vs inner = done (reading i (get_or vs 0 0))
built k_copy i vs inner = done (copy i (place_at vs 0))
built k_move i vs inner = done (move i (place_at vs 0))
built k_shared i vs inner = done (borrow_shared i (place_at vs 0))
built k_exclusive i vs inner = done (borrow_exclusive i (place_at vs 0))
built k_box i vs inner = do
  x ← inner false
  done (box i x)
built k_let i vs inner = do
  x ← inner false
  done (declare i (get_or vs 0 0) x)
built k_assign i vs inner = do
  x ← inner false
  done (assign i (place_at vs 0) x)
built k_below i vs inner = done (below i (place_at vs 0) (place_at vs 2))
built k_block i vs inner = do
  ts ← several (inner false) (get_or vs 0 0 - 1)
  done (block i ts)
built k_choice i vs inner = do
  a ← inner true
  b ← inner true
  done (choice i (place_at vs 0) (branch a).0 (branch a).1 (branch b).0 (branch b).1)
built k_sum i vs inner = done (sum i (place_at vs 0) (place_at vs 2))

-- A term (LANGUAGE 2.2) with the levels that are left, in version v; `outer` says that it must be a block. 15: no level is left; 17: one box
-- too many (5.4).
unfoldable pub term : Limits → ℕ → Form → ℕ → Bool → Reads Term
term l v w zero outer = do
  opening l v w outer
  λ s. err (15, place_in w s.at)
term l v w (suc d) outer = do
  k ← opening l v w outer
  expect w (λ s. leb (s.boxes + boxes_of k) l.boxes) 17
  i ← counted k
  skip
  vs ← operands w (fields l k)
  rest_of_row w (length vs)
  built k i vs (term l v w d)

-- 19: something follows the outermost block (LANGUAGE 5.4); in rows, a later row that is not all 0 (5.13).
unfoldable pub nothing_left : Form → ℕ → List ℕ → Result Refusal (Unit {0})
nothing_left in_bytes k [] = ok tt
nothing_left in_bytes k (x ∷ xs) = err (19, k)
nothing_left in_rows k [] = ok tt
nothing_left in_rows k (x ∷ xs) = ◌&◌ (need (eqb x 0) (19, k / 5)) (λ u. nothing_left in_rows (suc k) xs)

-- Nothing is left where the reader stands (19; LANGUAGE 5.4).
unfoldable pub over : Form → Reads (Unit {0})
over w s = ◌&◌ (nothing_left w s.at s.rest) (λ u. ok (u, s))

-- One term, a block, and nothing after it (LANGUAGE 2.1).
unfoldable pub script : Limits → ℕ → Form → Reads Term
script l v w = do
  t ← term l v w l.levels true
  over w
  done t

-- 10: a byte of the mark differs (LANGUAGE 5.4), each judged by itself (5.9).
unfoldable pub mark : ℕ → Reads (Unit {0})
mark b = do
  v ← peek in_bytes
  expect in_bytes (λ s. eqb v b) 10
  skip

-- The version. 11, at offset 3 (LANGUAGE 5.4): one that the reader does not know, whose newest known version is n (6.2). It is judged once both
-- bytes are there (5.9).
unfoldable pub version : ℕ → Reads ℕ
version n = do
  a ← next in_bytes
  b ← next in_bytes
  λ s. ◌&◌ (need (knows n (a * 256 + b)) (11, 3)) (λ u. ok (a * 256 + b, s))

-- The mark and the version (LANGUAGE 2.1).
unfoldable pub leading : ℕ → Reads ℕ
leading n = do
  mark 0x52
  mark 0x43
  mark 0x53
  version n

-- A whole script (LANGUAGE 2.1): its term has the kinds of its version.
unfoldable pub whole_script : Limits → ℕ → Reads Whole
whole_script l n = do
  v ← leading n
  t ← script l v in_bytes
  done (record { version = v; term = t })

abbrev pub start : List ℕ → Cursor
start xs = record { rest = xs; at = 0; terms = 0; boxes = 0 }

unfoldable pub answer : {A : Type 0} → Reads A → List ℕ → Result Refusal A
answer m xs = ◌&◌ (m (start xs)) (λ r. ok r.0)

-- The version and the tree of a script's bytes, or the refusal and its offset (LANGUAGE 5.9), for a reader whose newest known version is n.
unfoldable pub parse : Limits → ℕ → List ℕ → Result Refusal Whole
parse l n bs = answer (whole_script l n) bs

-- The tree of term rows with the kinds of version v, or the refusal and its row (LANGUAGE 5.13).
unfoldable pub decode_in : Limits → ℕ → List ℕ → Result Refusal Term
decode_in l v rs = answer (script l v in_rows) rs

-- The same with the kinds of every version (LANGUAGE 6.3).
unfoldable pub decode : Limits → List ℕ → Result Refusal Term
decode l rs = decode_in l newest rs
