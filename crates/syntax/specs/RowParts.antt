-- What the parts of the row judge's code answer. No rule of the language is stated here.
use Rattle.std.specs.Prelude.{ℕ, suc, ◌+◌, ◌*◌, ◌-◌, ◌≤◌, ◌<◌, ◌≡◌, Bool, true, false, not, ◌&&◌, List, [], ◌∷◌, length, get_or, drop, leb, ltb, eqb, MatchResult}
use Rattle.std.specs.Prelude as prelude
use Rattle.std.specs.Int.Bits.{bit_or}
use Rattle.syntax.specs.Result.{Result, ok, err, Refusal, pick, ◌>>=◌}
use Rattle.syntax.specs.Limits.{Limits, in_ranges, row_numbers}
use Rattle.syntax.specs.Script.{Term, Terms}
use Rattle.syntax.specs.Kinds.{Field, word, until}
use Rattle.syntax.specs.Layout.{in_rows}
use Rattle.syntax.specs.Reader.{Cursor, term, several, decode_in}
use Rattle.syntax.specs.Measures.{size}
use Rattle.syntax.specs.Answers.{given_whole}
use Rattle.syntax.specs.Parts.{cursor, known_in, fields_of}
use Rattle.syntax.specs.KindNumbers.{number_in}
use Rattle.syntax.specs.Refusals.{number_of}
use Rattle.syntax.specs.declared.kinds.Kind as code
use Rattle.syntax.specs.declared.refusals.Reason.{Reason}

-- Field k of row i.
abbrev pub field_at : List ℕ → ℕ → ℕ → ℕ
field_at rows i k = get_or rows (5 * i + k) 0

-- The fields of row i after its kind.
abbrev pub fields_at : List ℕ → ℕ → List ℕ
fields_at rows i = field_at rows i 1 ∷ field_at rows i 2 ∷ field_at rows i 3 ∷ field_at rows i 4 ∷ []

unfoldable pub field_fits : Field → ℕ → Bool
field_fits word v = true
field_fits (until low high) v = leb low v && ltb v high

-- A row's fields after the kind, against its operands: those left over are 0.
unfoldable pub fields_fit : List Field → List ℕ → Bool
fields_fit [] [] = true
fields_fit [] (v ∷ vs) = eqb v 0 && fields_fit [] vs
fields_fit (f ∷ fs) [] = false
fields_fit (f ∷ fs) (v ∷ vs) = field_fits f v && fields_fit fs vs

-- Row i is a term's, and not a block's.
unfoldable pub no_block : ℕ → List ℕ → ℕ → Bool
no_block v rows i = known_in v (field_at rows i 0) && not (eqb (field_at rows i 0) 11)

-- The number of the refusal at row i; 0 where there is none.
unfoldable pub row_number : Limits → ℕ → ℕ → Bool → List ℕ → ℕ → ℕ → ℕ
row_number l v levels outer rows i boxes =
    let kind = field_at rows i 0 in
    pick (leb l.terms i) 12
    (pick (eqb kind 0) 12
    (pick (not (known_in v kind)) 13
    (pick (outer && not (eqb kind 11)) 18
    (pick (eqb levels 0) 15
    (pick (eqb kind 7 && leb l.boxes boxes) 17
    (pick (fields_fit (fields_of l kind) (fields_at rows i)) 0
    14))))))

-- The code's answer to a row: its kind where the number is 0, or the refusal with that number.
abbrev pub RowJudged : ℕ → ℕ → prelude.Result code.Kind Reason → Type 0
RowJudged number b r = MatchResult r (λ k. (number ≡ 0) × (number_in k ≡ b)) (λ e. (number ≡ number_of e) × (0 < number_of e))

-- What the row judge asks of the rows, of the row to judge, and of the boxes met so far.
pub record RowsReady (l : Limits) (rows : List ℕ) (i boxes : ℕ) : Type 0 where
  pub ranges : in_ranges l ≡ true
  pub full : length rows ≡ row_numbers l
  pub near : i < 8192
  pub few : boxes ≤ l.boxes

-- The reader at row i.
abbrev pub row_cursor : List ℕ → ℕ → ℕ → Cursor
row_cursor rows i boxes = cursor (drop (5 * i) rows) (5 * i) i boxes

abbrev pub term_rows : Limits → ℕ → ℕ → Bool → List ℕ → ℕ → ℕ → Result Refusal (Term × Cursor)
term_rows l v levels outer rows i boxes = term l v in_rows levels outer (row_cursor rows i boxes)

abbrev pub block_rows : Limits → ℕ → ℕ → ℕ → List ℕ → ℕ → ℕ → Result Refusal (Terms × Cursor)
block_rows l v levels count rows i boxes = several (term l v in_rows levels false) (count - 1) (row_cursor rows i boxes)

-- The two blocks of a choice.
abbrev pub branch_rows : Limits → ℕ → ℕ → List ℕ → ℕ → ℕ → Result Refusal (Terms × Cursor)
branch_rows l v levels rows i boxes = several (term l v in_rows levels true) 1 (row_cursor rows i boxes)

-- The number of terms of rows with the kinds of version v.
unfoldable pub judged_in : Limits → ℕ → List ℕ → Result Refusal ℕ
judged_in l v rows = decode_in l v rows >>= λ t. ok (size t)

-- The same, once the set, the length of the rows and the version are judged: 74, 2, 11, then 12 to 19.
unfoldable pub given_terms : Limits → ℕ → List ℕ → Result Refusal ℕ
given_terms l v rows = given_whole l v rows >>= λ s. ok (size s.term)

-- The row past what was judged, with the boxes met so far; or the refusal and its row.
abbrev pub Span : Type 0
Span = Result Refusal (ℕ × ℕ)

unfoldable pub span_of : {A : Type 0} → Result Refusal (A × Cursor) → Span
span_of (ok o) = ok (o.1.terms, o.1.boxes)
span_of (err e) = err e

-- The bits of b and of every number of the list.
unfoldable pub bits_of : ℕ → List ℕ → ℕ
bits_of b [] = b
bits_of b (x ∷ xs) = bits_of (bit_or b x) xs

-- Where the first number that is not 0 stands, counted from k.
unfoldable pub first_used : ℕ → List ℕ → ℕ
first_used k [] = k
first_used k (x ∷ xs) = pick (eqb x 0) (first_used (suc k) xs) k
