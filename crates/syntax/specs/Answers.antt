-- What `read`, `judge_rows`, `length` and `write` answer, and what they leave in lent memory, on every input (LANGUAGE 6.2 to 6.4).
use Rattle.std.specs.Prelude.{ℕ, List, ◌++◌, length, drop, leb, eqb}
use Rattle.syntax.specs.Result.{Result, ok, err, Refusal, need, ◌>>=◌}
use Rattle.syntax.specs.Limits.{Limits, in_ranges, max_bytes, row_numbers}
use Rattle.syntax.specs.Kinds.{newest, knows}
use Rattle.syntax.specs.Script.{Term, Whole}
use Rattle.syntax.specs.Layout.{bytes_of, rows_of, zeros}
use Rattle.syntax.specs.Reader.{parse, decode_in, decode}
use Rattle.syntax.specs.Measures.{size}

-- What reading tells: the version and the number of terms (LANGUAGE 6.2).
abbrev pub Told : Type 0
Told = ℕ × ℕ

-- The answer, and the lent memory afterwards.
abbrev pub Answered : Type 0 → Type 0
Answered A = Result Refusal A × List ℕ

-- 74: a limit of the set is outside its range (LANGUAGE 5.3).
abbrev pub set_fits : Limits → Result Refusal (Unit {0})
set_fits l = need (in_ranges l) (74, 0)

-- 2: the rows have another length (LANGUAGE 5.3).
abbrev pub rows_fit : Limits → List ℕ → Result Refusal (Unit {0})
rows_fit l rows = need (eqb (length rows) (row_numbers l)) (2, 0)

-- 74 before every other number; 1: the script is too long (LANGUAGE 5.3); then 2, since the lowest of the two goes first (5.8).
unfoldable pub lengths_fit : Limits → List ℕ → List ℕ → Result Refusal (Unit {0})
lengths_fit l script rows =
    set_fits l >>= λ _.
    need (leb (length script) max_bytes) (1, 0) >>= λ _.
    rows_fit l rows

-- The version, the number of terms and the rows of a script; on a refusal all rows are 0 (LANGUAGE 6.2).
unfoldable pub parsed_into : Limits → Result Refusal Whole → Answered Told
parsed_into l (ok s) = (ok (s.version, size s.term), rows_of l s.term)
parsed_into l (err e) = (err e, zeros (row_numbers l))

-- The caller's refusals change no lent memory (LANGUAGE 5.3).
unfoldable pub on_fit : {A : Type 0} → Result Refusal (Unit {0}) → List ℕ → Answered A → Answered A
on_fit (ok u) memory done = done
on_fit (err e) memory done = (err e, memory)

-- `read` (LANGUAGE 6.2), by a reader whose newest known version is n: the answer and the rows.
unfoldable pub read_of : Limits → ℕ → List ℕ → List ℕ → Answered Told
read_of l n script rows = on_fit (lengths_fit l script rows) rows (parsed_into l (parse l n script))

-- The tree of rows that are given, of every version: 74, 2, then 12 to 19 (LANGUAGE 5.7).
unfoldable pub rows_tree : Limits → List ℕ → Result Refusal Term
rows_tree l rows =
    set_fits l >>= λ _.
    rows_fit l rows >>= λ _.
    decode l rows

-- `judge_rows` (LANGUAGE 6.3): the number of terms.
unfoldable pub judged_of : Limits → List ℕ → Result Refusal ℕ
judged_of l rows = rows_tree l rows >>= λ t. ok (size t)

-- The script that is to be written in version v: 74, 2, then 11 at 0 for a version that there is not, then 12 to 19 with the kinds of the
-- version (LANGUAGE 5.8, 6.4).
unfoldable pub given_whole : Limits → ℕ → List ℕ → Result Refusal Whole
given_whole l v rows =
    set_fits l >>= λ _.
    rows_fit l rows >>= λ _.
    need (knows newest v) (11, 0) >>= λ _.
    decode_in l v rows >>= λ t.
    ok (record { version = v; term = t })

-- `length` (LANGUAGE 6.4) in version v: how many bytes writing fills, or writing's refusal; never 5, since no output is given.
unfoldable pub length_of : Limits → ℕ → List ℕ → Result Refusal ℕ
length_of l v rows = given_whole l v rows >>= λ s. ok (length (bytes_of s))

-- 5: the output is too short (LANGUAGE 5.3), judged after the rows (5.8).
unfoldable pub writable : Limits → ℕ → List ℕ → List ℕ → Result Refusal Whole
writable l v rows output =
    given_whole l v rows >>= λ s.
    need (leb (length (bytes_of s)) (length output)) (5, 0) >>= λ _.
    ok s

-- The output after the script stays as it was, and all of it on a refusal (LANGUAGE 6.4).
unfoldable pub written_into : List ℕ → Result Refusal Whole → Answered ℕ
written_into output (ok s) = (ok (length (bytes_of s)), bytes_of s ++ drop (length (bytes_of s)) output)
written_into output (err e) = (err e, output)

-- `write` (LANGUAGE 6.4) in version v: the bytes that the script takes, and the output.
unfoldable pub written_of : Limits → ℕ → List ℕ → List ℕ → Answered ℕ
written_of l v rows output = written_into output (writable l v rows output)
