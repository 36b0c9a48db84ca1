-- A script's bytes (LANGUAGE 2.1 to 2.5) and its term rows (2.9, 2.10). Both list the terms in one order, so one definition gives both.
use Rattle.std.specs.Prelude.{ℕ, suc, ◌-◌, ◌/◌, ◌%◌, List, [], ◌∷◌, ◌++◌, length, replicate}
use Rattle.syntax.specs.Limits.{Limits, row_numbers}
use Rattle.syntax.specs.Script.{Place, Term, Terms, Whole, number, reading, copy, move, borrow_shared, borrow_exclusive, box, declare, assign, below, block, choice, sum, last, more}
use Rattle.syntax.specs.Kinds.{Kind, k_number, k_reading, k_copy, k_move, k_shared, k_exclusive, k_box, k_let, k_assign, k_below, k_block, k_choice, k_sum, byte_of}

-- The two forms of a script: bytes (LANGUAGE 2.1) and term rows (2.9).
pub data Form : Type 0 where
  in_bytes in_rows : Form

unfoldable pub zeros : ℕ → List ℕ
zeros n = replicate n 0

-- A number: in bytes four, the high one first (LANGUAGE 1.4, 2.3); in rows one field, its 32 bits (2.9).
unfoldable pub word_of : Form → ℕ → List ℕ
word_of in_bytes n = n / 16777216 ∷ (n / 65536) % 256 ∷ (n / 256) % 256 ∷ n % 256 ∷ []
word_of in_rows n = n ∷ []

-- Unused fields are 0 (LANGUAGE 2.10); a row has four fields after the kind.
unfoldable pub unused : Form → ℕ → List ℕ
unused in_bytes n = []
unused in_rows n = zeros (4 - n)

-- The kind, then its operands in the order of their bytes (LANGUAGE 2.2, 2.9).
unfoldable pub head : Form → Kind → List ℕ → List ℕ
head w k vs = byte_of k ∷ vs ++ unused w (length vs)

-- A place: its root, then its follows (LANGUAGE 2.5).
abbrev pub place_of : Place → List ℕ
place_of p = p.root ∷ p.follows ∷ []

-- The terms of a block after its first; its count is one more (LANGUAGE 2.3).
unfoldable pub others : Terms → ℕ
others (last t) = 0
others (more t ts) = suc (others ts)

unfoldable mutual
  -- A term (LANGUAGE 2.2): kind, operands, inner terms.
  pub lay : Form → Term → List ℕ
  lay w (number i n) = head w k_number (word_of w n)
  lay w (reading i n) = head w k_reading (n ∷ [])
  lay w (copy i p) = head w k_copy (place_of p)
  lay w (move i p) = head w k_move (place_of p)
  lay w (borrow_shared i p) = head w k_shared (place_of p)
  lay w (borrow_exclusive i p) = head w k_exclusive (place_of p)
  lay w (box i t) = head w k_box [] ++ lay w t
  lay w (declare i x t) = head w k_let (x ∷ []) ++ lay w t
  lay w (assign i p t) = head w k_assign (place_of p) ++ lay w t
  lay w (below i p q) = head w k_below (place_of p ++ place_of q)
  lay w (block i ts) = head w k_block (suc (others ts) ∷ []) ++ lays w ts
  lay w (choice i p j us k vs) =
      head w k_choice (place_of p) ++ (head w k_block (suc (others us) ∷ []) ++ lays w us) ++ (head w k_block (suc (others vs) ∷ []) ++ lays w vs)
  lay w (sum i p q) = head w k_sum (place_of p ++ place_of q)

  pub lays : Form → Terms → List ℕ
  lays w (last t) = lay w t
  lays w (more t ts) = lay w t ++ lays w ts

-- A script (LANGUAGE 2.1): the mark `RCS`, the version in two bytes, one term.
unfoldable pub bytes_of : Whole → List ℕ
bytes_of s = 0x52 ∷ 0x43 ∷ 0x53 ∷ s.version / 256 ∷ s.version % 256 ∷ lay in_bytes s.term

-- The term rows (LANGUAGE 2.9), and 0 in all fields after the last term (2.10).
unfoldable pub rows_of : Limits → Term → List ℕ
rows_of l t = lay in_rows t ++ zeros (row_numbers l - length (lay in_rows t))
