-- The line that the program prints (LANGUAGE 6.11), and what `report` answers and leaves in lent memory on every input (6.9).
use Rattle.std.specs.Prelude.{ℕ, zero, suc, ◌+◌, ◌/◌, ◌%◌, List, [], ◌∷◌, ◌++◌, ltb, ℤ, pos, negsuc, length, drop}
use Prim.Native.Char.{code}
use Prim.Native.String.{String, [] as []ˢ, ◌∷◌ as ◌∷ˢ◌}
use Rattle.syntax.specs.Result.{pick}
use Rattle.syntax.specs.Layout.{zeros}
use Rattle.syntax.specs.Limits.{Limits, base, row_numbers, store_numbers}
use Rattle.room.specs.Calling.{CallAnswer, called, refused, CallMade, call_of, reading_at}

-- The bytes of a text: its characters' codes. Every text here is ASCII.
abbrev pub ascii : String → List ℕ
ascii []ˢ = []
ascii (c ∷ˢ s) = code c ∷ ascii s

-- The digits of n by at most `most` divisions. `decimal` allows n of them, which are always enough (`decimal_is`).
unfoldable pub digits_by : ℕ → ℕ → List ℕ
digits_by zero n = (48 + n % 10) ∷ []
digits_by (suc most) n = pick (ltb n 10) ((48 + n) ∷ []) (digits_by most (n / 10) ++ ((48 + n % 10) ∷ []))

-- A number in decimal digits, the highest first, no zero in front; 48 is the code of `0`.
unfoldable pub decimal : ℕ → List ℕ
decimal n = digits_by n n

-- The same of a signed number, a minus in front of a negative one. `negsuc n` is -(n + 1).
unfoldable pub signed : ℤ → List ℕ
signed (pos n) = decimal n
signed (negsuc n) = ascii "-" ++ decimal (suc n)

-- The line of an answer (LANGUAGE 6.11): terms, answer and cells taken; or number and place.
unfoldable pub line_of : CallAnswer → List ℕ
line_of (called terms answer cells) = (ascii "accepted " ++ decimal terms) ++ (ascii " call " ++ signed answer) ++ (ascii " cells " ++ decimal cells) ++ ascii "\n"
line_of (refused number place) = (ascii "refused " ++ decimal number) ++ (ascii " at " ++ decimal place) ++ ascii "\n"

-- The line for fewer than 32 bytes of input (LANGUAGE 6.11).
unfoldable pub short_line : List ℕ
short_line = ascii "readings short\n"

-- The eight readings at the front of the input (LANGUAGE 6.10).
unfoldable pub readings_of : List ℕ → List ℤ
readings_of input =
    reading_at input 0 ∷ reading_at input 4 ∷ reading_at input 8 ∷ reading_at input 12
    ∷ reading_at input 16 ∷ reading_at input 20 ∷ reading_at input 24 ∷ reading_at input 28 ∷ []

-- The length of the line; the rows, the store and the line's buffer afterwards.
abbrev pub Reported : Type 0
Reported = ℕ × (List ℕ × (List ℕ × List ℕ))

-- The line at the front of its buffer, and the bytes behind it as they were.
unfoldable pub in_front : List ℕ → List ℕ → List ℕ
in_front text line = text ++ drop (length text) line

unfoldable pub reported : List ℕ → List ℕ → List ℕ → List ℕ → Reported
reported text rows store line = (length text, (rows, (store, in_front text line)))

unfoldable pub report_call : CallMade → List ℕ → Reported
report_call made line = reported (line_of made.0) made.1.0 made.1.1 line

-- `report`: the line of the call of the script after the readings (LANGUAGE 6.9, 6.10).
unfoldable pub report_of : Limits → List ℕ → List ℕ → List ℕ → List ℕ → Reported
report_of l input rows store line =
    pick (ltb (length input) 32)
    (reported short_line rows store line)
    (report_call (call_of l (drop 32 input) (readings_of input) rows store) line)

-- The length of the line and the line's buffer, which is what outlives the program's own rows and store.
abbrev pub line_reported : Reported → ℕ × List ℕ
line_reported r = (r.0, r.1.1.1)

-- `report_base`: that of `report` under the language's own set (LANGUAGE 2.8), with rows and store of the set's lengths (2.9, 4.1) that are all 0.
unfoldable pub base_report_of : List ℕ → List ℕ → ℕ × List ℕ
base_report_of input line = line_reported (report_of base input (zeros (row_numbers base)) (zeros (store_numbers base)) line)
