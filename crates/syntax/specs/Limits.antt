-- How large a script may be (LANGUAGE 2.8). The first four limits are a set that the caller hands in with every call, and the language's own
-- set is one instance; that of bytes is fixed.
use Rattle.std.specs.Prelude.{ℕ, ◌+◌, ◌*◌, ◌/◌, ◌%◌, Bool, ◌&&◌, leb}
use Rattle.syntax.specs.declared.limits.Limits as code

-- The most terms, variables, boxes and levels (LANGUAGE 2.4, 2.8), as the caller hands them in: any four numbers.
abbrev pub Limits : Type 0
Limits = code.Limits

-- The language's own set (LANGUAGE 2.4, 2.8).
unfoldable pub base : Limits
base = record { terms = 512; variables = 64; boxes = 64; levels = 16 }

-- The sets that are served (LANGUAGE 2.8): terms 1 to 4,096, variables 1 to 128, boxes 0 to 128, levels 1 to 32.
unfoldable pub in_ranges : Limits → Bool
in_ranges l =
    leb 1 l.terms && leb l.terms 4096
    && leb 1 l.variables && leb l.variables 128
    && leb l.boxes 128
    && leb 1 l.levels && leb l.levels 32

-- The most bytes of a script, whatever the set (LANGUAGE 2.8).
unfoldable pub max_bytes : ℕ
max_bytes = 32768

-- The numbers of a script's term rows, five per term (LANGUAGE 2.9).
unfoldable pub row_numbers : Limits → ℕ
row_numbers l = 5 * l.terms

-- The rows of the store, one for each variable and each cell, and its numbers, three per row (LANGUAGE 4.1).
abbrev pub store_rows : Limits → ℕ
store_rows l = l.variables + l.boxes

unfoldable pub store_numbers : Limits → ℕ
store_numbers l = 3 * store_rows l

-- The set that one number stands for: variables, boxes, levels and terms, the variables lowest; and the version above them, as
-- `syntax::limits::packed` and `with_version` make it.
abbrev pub unpacked : ℕ → Limits
unpacked sizes = record { terms = sizes / 4194304 % 8192; variables = sizes % 256; boxes = sizes / 256 % 256; levels = sizes / 65536 % 64 }

abbrev pub version_of : ℕ → ℕ
version_of sizes = sizes / 34359738368
