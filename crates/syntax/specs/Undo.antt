-- Reading and writing undo each other (LANGUAGE 7.3), said of what `read`, `judge_rows` and `write` answer and leave; and which scripts they
-- are. `Under` says what the type of a lent slice says of its numbers.
use Rattle.std.specs.Prelude.{ℕ, ◌≤◌, ◌≡◌, true, List, ◌++◌, length, take, drop}
use Rattle.syntax.specs.Result.{ok}
use Rattle.syntax.specs.Limits.{Limits, in_ranges, row_numbers}
use Rattle.syntax.specs.Kinds.{newest}
use Rattle.syntax.specs.Script.{Whole}
use Rattle.syntax.specs.Layout.{bytes_of, rows_of}
use Rattle.syntax.specs.Measures.{size}
use Rattle.syntax.specs.Within.{Allowed, Under}
use Rattle.syntax.specs.Answers.{read_of, judged_of, written_of}

-- What `write` wrote is read, wherever the version is known, as the version and the rows that it was given, and as the number of terms that
-- these rows have.
abbrev pub ReadAfterWrite : Limits → Type 0
ReadAfterWrite l =
    (v known : ℕ) (rows output : List ℕ) (n : ℕ) (output' others : List ℕ)
    → Under 4294967296 rows → length others ≡ row_numbers l → v ≤ known → written_of l v rows output ≡ (ok n, output')
    → (m : ℕ) × (judged_of l rows ≡ ok m) × (read_of l known (take n output') others ≡ (ok (v, m), rows))

-- The rows that `read` left have the number of terms that it told, and are written in the version that it told as the script that it was
-- given, wherever the output has room for it.
abbrev pub WriteAfterRead : Limits → Type 0
WriteAfterRead l =
    (known : ℕ) (script rows : List ℕ) (v n : ℕ) (rows' output : List ℕ)
    → Under 256 script → read_of l known script rows ≡ (ok (v, n), rows') → length script ≤ length output
    → (judged_of l rows' ≡ ok n) × (written_of l v rows' output ≡ (ok (length script), script ++ drop (length script) output))

-- Rows that `judge_rows` accepts are those that `read` leaves for some script of the newest version.
abbrev pub JudgedAreRead : Limits → Type 0
JudgedAreRead l =
    (rows : List ℕ) (n : ℕ) (others : List ℕ) → Under 4294967296 rows → length others ≡ row_numbers l → judged_of l rows ≡ ok n
    → (script : List ℕ) × (read_of l newest script others ≡ (ok (newest, n), rows))

-- What `read` reads is a script that is allowed (LANGUAGE 2.1, 2.8), of a version that is known; it tells its version and its number of terms,
-- and leaves its rows.
abbrev pub ReadIsAllowed : Limits → Type 0
ReadIsAllowed l =
    (known : ℕ) (script rows : List ℕ) (v n : ℕ) (rows' : List ℕ) → Under 256 script → read_of l known script rows ≡ (ok (v, n), rows')
    → (s : Whole) × Allowed l s × (s.version ≡ v) × (v ≤ known) × (script ≡ bytes_of s) × (n ≡ size s.term) × (rows' ≡ rows_of l s.term)

-- Every script that is allowed, of each version, is read so from its bytes wherever its version is known, and written from its rows as these bytes
-- wherever the output has room.
abbrev pub AllowedIsRead : Limits → Type 0
AllowedIsRead l =
    (s : Whole) (known : ℕ) (others output : List ℕ) → in_ranges l ≡ true → Allowed l s
    → s.version ≤ known → length others ≡ row_numbers l → length (bytes_of s) ≤ length output
    → (read_of l known (bytes_of s) others ≡ (ok (s.version, size s.term), rows_of l s.term))
    × (written_of l s.version (rows_of l s.term) output ≡ (ok (length (bytes_of s)), bytes_of s ++ drop (length (bytes_of s)) output))
