-- The versions (LANGUAGE 2.1), and the table of kinds (2.3): the kind byte, and the operands after it.
use Rattle.std.specs.Prelude.{ℕ, Bool, true, false, ◌&&◌, List, [], ◌∷◌, ◌++◌, leb, eqb}
use Rattle.std.proofs.Math.Option.{Option, none, some}
use Rattle.syntax.specs.Limits.{Limits}
use Rattle.syntax.specs.Result.{pick}

-- The kinds of terms (LANGUAGE 2.3).
pub data Kind : Type 0 where
  k_number k_reading k_copy k_move k_shared k_exclusive k_box k_let k_assign k_below k_block k_choice k_sum : Kind

-- The kind bytes (LANGUAGE 2.3).
unfoldable pub byte_of : Kind → ℕ
byte_of k_number = 0x01
byte_of k_reading = 0x02
byte_of k_copy = 0x03
byte_of k_move = 0x04
byte_of k_shared = 0x05
byte_of k_exclusive = 0x06
byte_of k_box = 0x07
byte_of k_let = 0x08
byte_of k_assign = 0x09
byte_of k_below = 0x0a
byte_of k_block = 0x0b
byte_of k_choice = 0x0c
byte_of k_sum = 0x0d

-- The newest version there is (LANGUAGE 2.1).
unfoldable pub newest : ℕ
newest = 2

-- The versions that a reader knows whose newest known version is n: from 1 to n, as far as there are any (LANGUAGE 6.2).
unfoldable pub knows : ℕ → ℕ → Bool
knows n v = leb 1 v && leb v n && leb v newest

-- The kinds that a version has (LANGUAGE 2.3): the choice and the sum are from version 2 on. Only the versions that there are are ever asked for.
unfoldable pub kinds : ℕ → List Kind
kinds v = k_number ∷ k_reading ∷ k_copy ∷ k_move ∷ k_shared ∷ k_exclusive ∷ k_box ∷ k_let ∷ k_assign ∷ k_below ∷ k_block ∷ pick (leb v 1) [] (k_choice ∷ k_sum ∷ [])

-- The kind with that kind byte (LANGUAGE 2.3), if it is one of the list.
unfoldable pub among : List Kind → ℕ → Option Kind
among [] b = none
among (k ∷ ks) b = elim (eqb (byte_of k) b) [ true ↦ some k | false ↦ among ks b ]

-- The kind of a kind byte, in a version; none for 13 (LANGUAGE 5.4).
unfoldable pub kind_of : ℕ → ℕ → Option Kind
kind_of v b = among (kinds v) b

-- The version that added a kind (LANGUAGE 2.3); 0 for the kinds that every version has, so that nothing need be known of the version for them.
-- `kinds` says the same version by version, and proofs/KindBytes that both agree.
unfoldable pub added_in : Kind → ℕ
added_in k_number = 0
added_in k_reading = 0
added_in k_copy = 0
added_in k_move = 0
added_in k_shared = 0
added_in k_exclusive = 0
added_in k_box = 0
added_in k_let = 0
added_in k_assign = 0
added_in k_below = 0
added_in k_block = 0
added_in k_choice = 2
added_in k_sum = 2

-- A kind with one inner term: box, let or assign (LANGUAGE 2.3).
unfoldable pub wraps_of : ℕ → Bool
wraps_of b = pick (eqb b (byte_of k_box)) true (pick (eqb b (byte_of k_let)) true (eqb b (byte_of k_assign)))

-- An operand (LANGUAGE 2.4): 32 bits, or a number from the first bound on and below the second.
pub data Field : Type 0 where
  word : Field
  until : ℕ → ℕ → Field

-- A place (LANGUAGE 2.5): its variable, then its follows, 0 to 8.
abbrev pub place_operands : Limits → List Field
place_operands l = until 0 l.variables ∷ until 0 9 ∷ []

-- The operands of a kind (LANGUAGE 2.3), with their ranges (2.4). Inner terms come after them.
unfoldable pub fields : Limits → Kind → List Field
fields l k_number = word ∷ []
fields l k_reading = until 0 8 ∷ []
fields l k_copy = place_operands l
fields l k_move = place_operands l
fields l k_shared = place_operands l
fields l k_exclusive = place_operands l
fields l k_box = []
fields l k_let = until 0 l.variables ∷ []
fields l k_assign = place_operands l
fields l k_below = place_operands l ++ place_operands l
fields l k_block = until 1 256 ∷ []
fields l k_choice = place_operands l
fields l k_sum = place_operands l ++ place_operands l
