-- The length as an answer of its own (LANGUAGE 6.4): what it says of writing, of reading (7.3) and of larger sets (7.7), said of what `length`,
-- `write` and `read` answer and leave.
use Rattle.std.specs.Prelude.{ℕ, ◌-◌, ◌≤◌, ◌<◌, ◌≡◌, true, List, ◌++◌, length, drop}
use Rattle.syntax.specs.Result.{ok, err, Refusal}
use Rattle.syntax.specs.Limits.{Limits, in_ranges, max_bytes, row_numbers}
use Rattle.syntax.specs.Larger.{NoSmaller}
use Rattle.syntax.specs.Layout.{zeros}
use Rattle.syntax.specs.Within.{Under}
use Rattle.syntax.specs.Answers.{read_of, length_of, written_of}

-- The length is never refused with 5.
abbrev pub NeverShort : Limits → Type 0
NeverShort l = (v : ℕ) (rows : List ℕ) (p : ℕ) → length_of l v rows ≡ err (5, p) → ⊥

-- Writing answers 5 exactly where the length is answered and the output is shorter.
pub record ShortExactly (l : Limits) : Type 0 where
  pub shorter : (v : ℕ) (rows output : List ℕ) (n : ℕ) → length_of l v rows ≡ ok n → length output < n → written_of l v rows output ≡ (err (5, 0), output)
  pub only_there : (v : ℕ) (rows output : List ℕ) (p : ℕ) → (written_of l v rows output).0 ≡ err (5, p) → (n : ℕ) × (length_of l v rows ≡ ok n) × (length output < n)

-- Everywhere else writing is refused as the length is, with the output unchanged, or fills as many bytes as the length says and leaves those after
-- them unchanged.
pub record SameOtherwise (l : Limits) : Type 0 where
  pub refused : (v : ℕ) (rows output : List ℕ) (e : Refusal) → length_of l v rows ≡ err e → written_of l v rows output ≡ (err e, output)
  pub written : (v : ℕ) (rows : List ℕ) (n : ℕ) → length_of l v rows ≡ ok n
      → (script : List ℕ) × (length script ≡ n) × ((output : List ℕ) → n ≤ length output → written_of l v rows output ≡ (ok n, script ++ drop n output))

-- The length of the rows that `read` left, in the version that it told, is that of the script that it was given.
abbrev pub LengthAfterRead : Limits → Type 0
LengthAfterRead l =
    (known : ℕ) (script rows : List ℕ) (v n : ℕ) (rows' : List ℕ)
    → Under 256 script → read_of l known script rows ≡ (ok (v, n), rows') → length_of l v rows' ≡ ok (length script)

-- An output of 32,768 bytes has room for every script.
abbrev pub LengthBound : Limits → Type 0
LengthBound l = (v : ℕ) (rows : List ℕ) (n : ℕ) → Under 4294967296 rows → length_of l v rows ≡ ok n → n ≤ max_bytes

-- Under a set that is nowhere smaller, and in its ranges, the length is the same, of the same rows with zeros behind them.
abbrev pub LargerLengths : Type 0
LargerLengths =
    (l m : Limits) → NoSmaller l m → in_ranges m ≡ true
    → (v : ℕ) (rows : List ℕ) (n : ℕ) → Under 4294967296 rows → length_of l v rows ≡ ok n
    → length_of m v (rows ++ zeros (row_numbers m - row_numbers l)) ≡ ok n
