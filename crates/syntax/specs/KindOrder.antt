-- The definition tried on the order of refusals at a kind byte (LANGUAGE 5.10): under limits so small that several are due at once,
-- it gives the first; on a kind of a later version (2.3); and on versions (5.9, 6.2).
use Rattle.std.specs.Prelude.{ℕ, ◌≡◌, refl, List, [], ◌∷◌, ◌++◌}
use Rattle.syntax.specs.Result
use Rattle.syntax.specs.Result.{err, need}
use Rattle.syntax.specs.Limits.{Limits}
use Rattle.syntax.specs.Kinds
use Rattle.syntax.specs.Reader
use Rattle.syntax.specs.Reader.{parse}

-- No box, one variable, and so many terms and levels.
abbrev few : ℕ → ℕ → Limits
few terms levels = record { terms = terms; variables = 1; boxes = 0; levels = levels }

-- Mark, version v, and a kind byte.
abbrev outermost : ℕ → ℕ → List ℕ
outermost v kind = 0x52 ∷ 0x43 ∷ 0x53 ∷ 0 ∷ v ∷ kind ∷ []

-- Mark, version 1, and a block of one term, of which these bytes are there.
abbrev block_of : List ℕ → List ℕ
block_of bytes = 0x52 ∷ 0x43 ∷ 0x53 ∷ 0 ∷ 1 ∷ 0x0B ∷ 1 ∷ bytes

-- Mark, version 2, and a block of one choice, of whose branches these bytes are there.
abbrev choice_of : List ℕ → List ℕ
choice_of bytes = 0x52 ∷ 0x43 ∷ 0x53 ∷ 0 ∷ 2 ∷ 0x0B ∷ 1 ∷ 0x0C ∷ 0 ∷ 0 ∷ bytes

-- A block of one number.
abbrev number_block : List ℕ
number_block = 0x0B ∷ 1 ∷ 0x01 ∷ 0 ∷ 0 ∷ 0 ∷ 0 ∷ []

-- No byte; a choice and a sum in version 1 and in version 2, and a box, as the outermost term; a box inside where a term, a level and a box
-- are too many, each without the one before; as a branch where these are too many, no byte, a byte that is no kind, a box, a block, and a block
-- with a term more, and a box as the second branch; one byte of a version, versions 257 and 3, versions that are newer than the newest known
-- one, and a reader that is told a newer one than there is.
pub order :
    (parse (few 1 1) 2 (block_of []) ≡ err (12, 7))
    × (parse (few 0 0) 2 (outermost 1 0x0C) ≡ err (13, 5))
    × (parse (few 0 0) 2 (outermost 2 0x0C) ≡ err (18, 5))
    × (parse (few 0 0) 2 (outermost 1 0x0D) ≡ err (13, 5))
    × (parse (few 0 0) 2 (outermost 2 0x0D) ≡ err (18, 5))
    × (parse (few 0 0) 2 (outermost 1 0x07) ≡ err (18, 5))
    × (parse (few 1 1) 2 (block_of (0x07 ∷ [])) ≡ err (16, 7))
    × (parse (few 2 1) 2 (block_of (0x07 ∷ [])) ≡ err (15, 7))
    × (parse (few 2 2) 2 (block_of (0x07 ∷ [])) ≡ err (17, 7))
    × (parse (few 2 2) 2 (choice_of []) ≡ err (12, 10))
    × (parse (few 2 2) 2 (choice_of (0x0E ∷ [])) ≡ err (13, 10))
    × (parse (few 2 2) 2 (choice_of (0x07 ∷ [])) ≡ err (18, 10))
    × (parse (few 2 2) 2 (choice_of (0x0B ∷ [])) ≡ err (16, 10))
    × (parse (few 3 2) 2 (choice_of (0x0B ∷ [])) ≡ err (15, 10))
    × (parse (few 4 4) 2 (choice_of (number_block ++ 0x07 ∷ [])) ≡ err (18, 17))
    × (parse (few 1 1) 2 (0x52 ∷ 0x43 ∷ 0x53 ∷ 1 ∷ []) ≡ err (12, 4))
    × (parse (few 1 1) 2 (0x52 ∷ 0x43 ∷ 0x53 ∷ 1 ∷ 1 ∷ []) ≡ err (11, 3))
    × (parse (few 1 1) 2 (outermost 3 0x0C) ≡ err (11, 3))
    × (parse (few 1 1) 1 (outermost 2 0x0C) ≡ err (11, 3))
    × (parse (few 1 1) 0 (outermost 1 0x0C) ≡ err (11, 3))
    × (parse (few 1 1) 3 (outermost 2 0x0E) ≡ err (13, 5))
unfolding
    need Result.◌>>=◌
    Kinds.newest Kinds.knows Kinds.byte_of Kinds.kinds Kinds.among Kinds.kind_of Kinds.fields
    Reader.◌>>=◌ Reader.done Reader.place_in Reader.expect Reader.first Reader.peek Reader.skip Reader.next Reader.ranged Reader.field Reader.operands Reader.rest_of_row Reader.is Reader.boxes_of Reader.ended Reader.known Reader.kind Reader.opening Reader.counted Reader.several Reader.built Reader.term Reader.nothing_left Reader.over Reader.script Reader.mark Reader.version Reader.leading Reader.whole_script Reader.answer Reader.parse
order = (refl, refl, refl, refl, refl, refl, refl, refl, refl, refl, refl, refl, refl, refl, refl, refl, refl, refl, refl, refl, refl)
