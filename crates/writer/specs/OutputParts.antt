-- What the code that writes bytes is said with: the bytes of a term row, and of the rows of a script. No rule of the language is stated here.
use Rattle.std.specs.Prelude.{ℕ, zero, suc, ◌+◌, ◌*◌, ◌/◌, ◌%◌, List, [], ◌∷◌, ◌++◌, get_or, drop, eqb}
use Rattle.syntax.specs.Result.{pick}

-- The bytes of a row, from its five numbers: the kind byte; then a number's four bytes, one operand, none, two places, or one place.
-- Each is a byte whatever the row holds.
unfoldable pub row_bytes : ℕ → ℕ → ℕ → ℕ → ℕ → List ℕ
row_bytes k a b c d =
    k % 256
    ∷ pick (eqb k 1) (a / 16777216 % 256 ∷ a / 65536 % 256 ∷ a / 256 % 256 ∷ a % 256 ∷ [])
    (pick (eqb k 2) (a % 256 ∷ [])
    (pick (eqb k 7) []
    (pick (eqb k 8) (a % 256 ∷ [])
    (pick (eqb k 10) (a % 256 ∷ b % 256 ∷ c % 256 ∷ d % 256 ∷ [])
    (pick (eqb k 11) (a % 256 ∷ [])
    (pick (eqb k 13) (a % 256 ∷ b % 256 ∷ c % 256 ∷ d % 256 ∷ [])
    (a % 256 ∷ b % 256 ∷ [])))))))

-- The bytes of row i.
unfoldable pub bytes_at : List ℕ → ℕ → List ℕ
bytes_at rs i = row_bytes (get_or rs (i * 5) 0) (get_or rs (i * 5 + 1) 0) (get_or rs (i * 5 + 2) 0) (get_or rs (i * 5 + 3) 0) (get_or rs (i * 5 + 4) 0)

-- The bytes of the first n rows, one after the other.
unfoldable pub flat : ℕ → List ℕ → List ℕ
flat zero rs = []
flat (suc n) rs = bytes_at rs 0 ++ flat n (drop 5 rs)

-- The mark, version v and the bytes of the first n rows.
abbrev pub script_from : ℕ → ℕ → List ℕ → List ℕ
script_from v n rs = 0x52 ∷ 0x43 ∷ 0x53 ∷ v / 256 % 256 ∷ v % 256 ∷ flat n rs
