-- What both parts of the code, for bytes and for rows, are said with. No rule of the language is stated here.
use Rattle.std.specs.Prelude.{ℕ, ◌+◌, ◌≤◌, ◌<◌, Bool, ◌&&◌, List, [], ◌∷◌, leb, ltb, eqb}
use Rattle.std.proofs.Math.Option.{Option, none, some}
use Rattle.syntax.specs.Result.{pick}
use Rattle.syntax.specs.Limits.{Limits}
use Rattle.syntax.specs.Kinds.{Kind, newest, kind_of, Field, until, fields}
use Rattle.syntax.specs.Reader.{Cursor}

abbrev pub cursor : List ℕ → ℕ → ℕ → ℕ → Cursor
cursor tail at terms boxes = record { rest = tail; at = at; terms = terms; boxes = boxes }

-- A kind byte of a version, by its range.
unfoldable pub known_in : ℕ → ℕ → Bool
known_in v b = pick (leb b 11) (ltb 0 b) (leb b 13 && leb 2 v)

-- A kind byte of some version.
abbrev pub IsKind : ℕ → Type 0
IsKind b = (0 < b) × (b ≤ 13)

unfoldable pub fields_in : Limits → Option Kind → List Field
fields_in l none = []
fields_in l (some k) = fields l k

abbrev pub place_fields : ℕ → List Field
place_fields nv = until 0 nv ∷ until 0 9 ∷ []

-- The operands of a kind byte.
unfoldable pub fields_of : Limits → ℕ → List Field
fields_of l b = fields_in l (kind_of newest b)

-- The boxes met once the kind byte is counted.
unfoldable pub boxes_with : ℕ → ℕ → ℕ
boxes_with kind boxes = pick (eqb kind 7) (boxes + 1) boxes
