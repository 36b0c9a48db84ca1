-- E1 to E11 (LANGUAGE 8.4), a sum, in version 2 and in version 1, and scripts with a choice, as the program is given them and as it prints them:
-- the bytes of an input, and the line. E8 and the second half of E9 are runs without a check, which the program does not do.
use Rattle.std.specs.Prelude.{ℕ, ◌≡◌, List, [], ◌∷◌, ◌++◌, map, take}
use Prim.Native.String.{String}
use Rattle.syntax.specs.Limits.{base, row_numbers, store_numbers}
use Rattle.syntax.specs.Script.{Term}
use Rattle.syntax.specs.Layout.{zeros, bytes_of}
use Rattle.safety.specs.Examples.{e1_bytes, e2, e2_used_again, e3, e4, e5, e6, e7, e9, nine, eight, e11, sums, lent, away}
use Rattle.program.specs.Line.{ascii, Reported, report_of}

-- The bytes that go out: as many of the buffer's as the answer says.
unfoldable pub line_in : Reported → List ℕ
line_in r = take r.0 r.1.1.1

-- What is printed for an input, with rows, store and buffer of their lengths.
unfoldable pub printed : List ℕ → List ℕ
printed input = line_in (report_of base input (zeros (row_numbers base)) (zeros (store_numbers base)) (zeros 80))

-- Readings 185 and 200 for E1, for the sum and for a choice, the others 0.
unfoldable pub some_readings : List ℕ
some_readings = (0 ∷ 0 ∷ 0 ∷ 185 ∷ 0 ∷ 0 ∷ 0 ∷ 200 ∷ []) ++ zeros 24

-- The script in version v.
unfoldable pub bytes_in : ℕ → Term → List ℕ
bytes_in v t = bytes_of (record { version = v; term = t })

unfoldable pub on : Term → List ℕ
on t = zeros 32 ++ bytes_in 1 t

-- Each input with its line. E1's script is given by its bytes (LANGUAGE 8.2).
unfoldable pub examples : List (List ℕ × String)
examples =
    (some_readings ++ e1_bytes, "accepted 8 call 1 cells 0\n")
    ∷ (on e2, "accepted 6 call 5 cells 0\n")
    ∷ (on e2_used_again, "refused 34 at 5\n")
    ∷ (on e3, "refused 33 at 6\n")
    ∷ (on e4, "accepted 9 call 8 cells 1\n")
    ∷ (on e5, "refused 40 at 4\n")
    ∷ (on e6, "accepted 12 call 2 cells 0\n")
    ∷ (on e7, "refused 36 at 7\n")
    ∷ (on e9, "refused 37 at 5\n")
    ∷ (on nine, "refused 42 at 2\n")
    ∷ (on eight, "accepted 12 call 0 cells 8\n")
    ∷ (on e11, "accepted 13 call 2 cells 0\n")
    ∷ (some_readings ++ bytes_in 2 sums, "accepted 6 call 385 cells 0\n")
    ∷ (on sums, "refused 13 at 15\n")
    ∷ (some_readings ++ bytes_in 2 lent, "accepted 14 call 1 cells 0\n")
    ∷ (zeros 32 ++ bytes_in 2 lent, "accepted 14 call 2 cells 0\n")
    ∷ (zeros 32 ++ bytes_in 2 away, "refused 33 at 19\n")
    ∷ []

abbrev pub LinesHold : Type 0
LinesHold = ◌≡◌ {A = List (List ℕ)} (map (λ (e : List ℕ × String). printed e.0) examples) (map (λ (e : List ℕ × String). ascii e.1) examples)
