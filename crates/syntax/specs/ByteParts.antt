-- What the parts of the byte reader's code answer, and the rows that they fill. No rule of the language is stated here.
use Rattle.std.specs.Prelude.{ℕ, zero, suc, ◌+◌, ◌*◌, ◌-◌, ◌/◌, ◌%◌, ◌≤◌, ◌≡◌, Bool, true, false, not, ◌&&◌, List, [], ◌∷◌, ◌++◌, length, get_or, leb, ltb, eqb}
use Rattle.std.specs.Prelude as prelude
use Rattle.std.proofs.lemmas.List.Edits.{sets}
use Rattle.syntax.specs.Result.{Result, ok, err, Refusal, pick}
use Rattle.syntax.specs.Limits.{Limits, in_ranges, row_numbers}
use Rattle.syntax.specs.Script.{Term, Terms, Whole}
use Rattle.syntax.specs.Kinds.{knows, Field, word, until}
use Rattle.syntax.specs.Layout.{in_bytes, in_rows, lay, zeros}
use Rattle.syntax.specs.Reader.{Cursor, term, several, start, whole_script}
use Rattle.syntax.specs.Within.{Under}
use Rattle.syntax.specs.Parts.{cursor, known_in, boxes_with}
use Rattle.syntax.specs.Refusals.{refusal_of}
use Rattle.syntax.specs.declared.refusals.Refusal as answer
use Rattle.syntax.specs.declared.progress.Progress.{Progress}

-- The number of the refusal at the kind byte that begins t; 0 where there is none.
unfoldable pub opening_number : Limits → ℕ → ℕ → Bool → List ℕ → ℕ → ℕ → ℕ
opening_number l v levels outer t terms boxes =
    pick (eqb (length t) 0) 12
    (pick (not (known_in v (get_or t 0 0))) 13
    (pick (outer && not (eqb (get_or t 0 0) 11)) 18
    (pick (leb l.terms terms) 16
    (pick (eqb levels 0) 15
    (pick (eqb (get_or t 0 0) 7 && leb l.boxes boxes) 17
    0)))))

-- The kind byte that begins t is a known kind's, and not a block's.
unfoldable pub no_block_byte : ℕ → List ℕ → Bool
no_block_byte v t = ltb 0 (length t) && (known_in v (get_or t 0 0) && not (eqb (get_or t 0 0) 11))

-- What is wrong with the byte at j as a number from low to below high; 0 where nothing is.
unfoldable pub field_number : List ℕ → ℕ → ℕ → ℕ → ℕ
field_number t j low high = pick (leb (length t) j) 12 (pick (leb low (get_or t j 0) && ltb (get_or t j 0) high) 0 14)

abbrev pub word_at : List ℕ → ℕ → ℕ
word_at t j = get_or t j 0 * 16777216 + get_or t (j + 1) 0 * 65536 + get_or t (j + 2) 0 * 256 + get_or t (j + 3) 0

-- Refused with a number at p; where it is 0, what follows.
unfoldable pub on_number : ℕ → ℕ → Result Refusal ℕ → Result Refusal ℕ
on_number zero p go = go
on_number (suc n) p go = err (suc n, p)

-- Operands from j on, of the term whose kind byte stands at offset at and begins t: where they end, or the refusal.
unfoldable pub judged_fields : List Field → List ℕ → ℕ → ℕ → Result Refusal ℕ
judged_fields [] t at j = ok j
judged_fields (word ∷ fs) t at j = pick (ltb (length t) (j + 4)) (err (12, at + length t)) (judged_fields fs t at (j + 4))
judged_fields (until a b ∷ fs) t at j = on_number (field_number t j a b) (at + j) (judged_fields fs t at (j + 1))

unfoldable pub values_at : List Field → List ℕ → ℕ → List ℕ
values_at [] t j = []
values_at (word ∷ fs) t j = word_at t j ∷ values_at fs t (j + 4)
values_at (until a b ∷ fs) t j = get_or t j 0 ∷ values_at fs t (j + 1)

abbrev pub word_field : List Field
word_field = word ∷ []

abbrev pub one_field : ℕ → ℕ → List Field
one_field low high = until low high ∷ []

abbrev pub two_place_fields : ℕ → List Field
two_place_fields nv = until 0 nv ∷ until 0 9 ∷ until 0 nv ∷ until 0 9 ∷ []

-- The fields of a row after its kind.
abbrev pub row_fields : List ℕ → List ℕ
row_fields vs = vs ++ zeros (4 - length vs)

abbrev pub row_with : ℕ → List ℕ → List ℕ
row_with kind vs = kind ∷ row_fields vs

-- ---- terms and blocks in bytes

-- What the term reader asks: the bytes from offset at on, the counts so far, and the lent rows.
pub record Ready (l : Limits) (tail : List ℕ) (at boxes : ℕ) (rows : List ℕ) : Type 0 where
  pub ranges : in_ranges l ≡ true
  pub bytes : Under 256 tail
  pub room : at + length tail ≤ 32768
  pub few : boxes ≤ l.boxes
  pub full : length rows ≡ row_numbers l

-- The offset past what was read, with the terms and boxes met so far; or the refusal.
pub data Got : Type 0 where
  Fine : ℕ → ℕ → ℕ → Got
  Refused : ℕ → ℕ → Got

-- What a reader's number stands for.
unfoldable pub found : ℕ → Got
found r = pick (ltb r 1099511627776) (Fine (r % 65536) (r / 65536 % 8192) (r / 65536 / 8192)) (Refused ((r - 1099511627776) / 65536 % 4294967296) (r % 65536))

-- What a reader's answer and the progress that it leaves stand for.
abbrev pub got_read : {A : Type 0} → prelude.Result A answer.Refusal → Progress → Got
got_read (prelude.Ok u) p = Fine p.at p.terms p.boxes
got_read (prelude.Err r) p = Refused (refusal_of r).0 (refusal_of r).1

-- Past a kind byte and the operands after it, which take so many bytes.
abbrev pub passed : Progress → ℕ → ℕ → Progress
passed p kind bytes = record { at = p.at + bytes; terms = p.terms + 1; boxes = boxes_with kind p.boxes }

unfoldable pub got_of : {A : Type 0} → Result Refusal (A × Cursor) → Got
got_of (ok o) = Fine o.1.at o.1.terms o.1.boxes
got_of (err e) = Refused e.0 e.1

-- The rows of what was read, from term n on; of a refusal nothing is said.
unfoldable pub RowsAfter : {A : Type 0} → (A → List ℕ) → Result Refusal (A × Cursor) → ℕ → List ℕ → List ℕ → Type 0
RowsAfter laid (ok o) n before after = after ≡ sets before (n * 5) (laid o.0)
RowsAfter laid (err e) n before after = Unit {0}

-- A reader's answer, and the rows that it leaves.
abbrev pub Reading : {A : Type 0} → (A → List ℕ) → Result Refusal (A × Cursor) → ℕ → List ℕ → List ℕ → Got → Type 0
Reading laid o n before after r = (r ≡ got_of o) × RowsAfter laid o n before after

abbrev pub read_term : Limits → ℕ → ℕ → Bool → List ℕ → ℕ → ℕ → ℕ → Result Refusal (Term × Cursor)
read_term l v levels outer tail at terms boxes = term l v in_bytes levels outer (cursor tail at terms boxes)

abbrev pub read_block : Limits → ℕ → ℕ → ℕ → List ℕ → ℕ → ℕ → ℕ → Result Refusal (Terms × Cursor)
read_block l v levels count tail at terms boxes = several (term l v in_bytes levels false) (count - 1) (cursor tail at terms boxes)

-- The two blocks of a choice.
abbrev pub read_branches : Limits → ℕ → ℕ → List ℕ → ℕ → ℕ → ℕ → Result Refusal (Terms × Cursor)
read_branches l v levels tail at terms boxes = several (term l v in_bytes levels true) 1 (cursor tail at terms boxes)

-- ---- a whole script

-- What is wrong with the byte at j as the mark's; 0 where nothing is.
unfoldable pub mark_number : List ℕ → ℕ → ℕ → ℕ
mark_number t j byte = pick (leb (length t) j) 12 (pick (eqb (get_or t j 0) byte) 0 10)

-- The version in the bytes at j and j + 1.
abbrev pub version_at : List ℕ → ℕ → ℕ
version_at t j = get_or t j 0 * 256 + get_or t (j + 1) 0

-- Mark and version from offset at on, for a reader whose newest known version is n: where they end, or the refusal.
unfoldable pub lead_judged : ℕ → List ℕ → ℕ → Result Refusal ℕ
lead_judged n t at =
    on_number (mark_number t at 0x52) at
    (on_number (mark_number t (at + 1) 0x43) (at + 1)
    (on_number (mark_number t (at + 2) 0x53) (at + 2)
    (pick (ltb (length t) (at + 5)) (err (12, length t))
    (pick (knows n (version_at t (at + 3))) (ok (at + 5)) (err (11, at + 3))))))

abbrev pub read_script : Limits → ℕ → List ℕ → Result Refusal (Whole × Cursor)
read_script l n bytes = whole_script l n (start bytes)

-- The answer for a whole script, with its version in place of the boxes.
unfoldable pub whole_got : Result Refusal (Whole × Cursor) → Got
whole_got (ok o) = Fine o.1.at o.1.terms o.0.version
whole_got (err e) = Refused e.0 e.1

abbrev pub laid_whole : Whole → List ℕ
laid_whole s = lay in_rows s.term

-- That answer, and the rows that it leaves.
abbrev pub ScriptRead : Limits → ℕ → List ℕ → List ℕ → List ℕ → Got → Type 0
ScriptRead l n bytes before after r = (r ≡ whole_got (read_script l n bytes)) × RowsAfter laid_whole (read_script l n bytes) 0 before after
