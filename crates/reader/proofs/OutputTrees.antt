-- The bytes of a tree are the bytes of its rows one after the other.
use Prim.Native.Nat.{ℕ, suc, ◌+◌, ◌/◌, ◌%◌, ◌≤◌, ◌<◌}
use native.Mathlib.Omega.{arith}
use native.Mathlib.Nat.{mod-eq_of_lt, suc-add, add_assoc, add-zero}
use native.Mathlib.Numerals.{one-add}
use mathlib.Core.Path.{◌≡◌, sym, ap, ap₂, ◌∙◌}
use mathlib.Core.List.{List, [], ◌∷◌, ◌++◌, append-nil, append_assoc}
use Rattle.syntax.specs.Limits.{Limits}
use Rattle.syntax.specs.Script.{Term, Terms, number, reading, copy, move, borrow_shared, borrow_exclusive, box, declare, assign, below, block, choice, sum, last, more}
use Rattle.syntax.specs.Kinds.{k_block, newest, byte_of, fields}
use Rattle.syntax.specs.Layout.{Form, in_bytes, in_rows, zeros, word_of, unused, head, others, lay, lays, bytes_of, rows_of}
use Rattle.syntax.specs.Measures.{size, sizes}
use Rattle.syntax.specs.Within.{Formed, FormedAll, Within}
use Rattle.writer.specs.OutputParts.{row_bytes, bytes_at, flat, script_from}

-- An operand in its range is a byte.
byte : (x : ℕ) → x < 256 → x % 256 ≡ x
byte x h = mod-eq_of_lt h

-- A block's own row and the rows of its terms.
abbrev block_of : Form → Terms → List ℕ
block_of w ts = head w k_block (suc (others ts) ∷ []) ++ lays w ts

flat_block : (ts : Terms) → suc (others ts) < 256 → (n : ℕ) (rest : List ℕ) → flat (sizes ts + n) (lays in_rows ts ++ rest) ≡ lays in_bytes ts ++ flat n rest → flat (suc (sizes ts) + n) (block_of in_rows ts ++ rest) ≡ block_of in_bytes ts ++ flat n rest
unfolding flat bytes_at row_bytes head byte_of unused zeros
flat_block ts h n rest e = rw (suc-add, byte (suc (others ts)) h) (ap (λ (x : List ℕ). 11 ∷ suc (others ts) ∷ x) e)

module _ (l : Limits) (few : l.variables ≤ 256) where
  -- The rows of a term, with n more rows after them.
  mutual
    unfolding flat bytes_at row_bytes lay head byte_of word_of unused zeros size Formed fields

    flat_term : (i : ℕ) (t : Term) (n : ℕ) (rest : List ℕ) → Formed l i t → flat (size t + n) (lay in_rows t ++ rest) ≡ lay in_bytes t ++ flat n rest
    flat_term i (number j v) n rest f = rw (one-add, byte (v / 16777216) (omega arith))
    flat_term i (reading j v) n rest f = rw (one-add, byte v (omega arith))
    flat_term i (copy j p) n rest f = rw (one-add, byte p.root (omega arith), byte p.follows (omega arith))
    flat_term i (move j p) n rest f = rw (one-add, byte p.root (omega arith), byte p.follows (omega arith))
    flat_term i (borrow_shared j p) n rest f = rw (one-add, byte p.root (omega arith), byte p.follows (omega arith))
    flat_term i (borrow_exclusive j p) n rest f = rw (one-add, byte p.root (omega arith), byte p.follows (omega arith))
    flat_term i (box j t) n rest f = rw suc-add (ap (λ (x : List ℕ). 7 ∷ x) (flat_term (suc i) t n rest f.2))
    flat_term i (declare j x t) n rest f = rw (suc-add, byte x (omega arith)) (ap (λ (y : List ℕ). 8 ∷ x ∷ y) (flat_term (suc i) t n rest f.2))
    flat_term i (assign j p t) n rest f =
        rw (suc-add, byte p.root (omega arith), byte p.follows (omega arith)) (ap (λ (x : List ℕ). 9 ∷ p.root ∷ p.follows ∷ x) (flat_term (suc i) t n rest f.2))
    flat_term i (below j p q) n rest f =
        rw (one-add, byte p.root (omega arith), byte p.follows (omega arith), byte q.root (omega arith), byte q.follows (omega arith))
    flat_term i (sum j p q) n rest f =
        rw (one-add, byte p.root (omega arith), byte p.follows (omega arith), byte q.root (omega arith), byte q.follows (omega arith))
    flat_term i (block j ts) n rest f = flat_block ts f.1.0.1 n rest (flat_terms (suc i) ts n rest f.2)
    flat_term i (choice m p j us k vs) n rest f =
        rw (suc-add (suc (sizes us) + suc (sizes vs)), byte p.root (omega arith), byte p.follows (omega arith), add_assoc (suc (sizes us)), append_assoc (block_of in_rows us), append_assoc (block_of in_bytes us))
        (ap (λ (x : List ℕ). 12 ∷ p.root ∷ p.follows ∷ x)
        (flat_block us f.2.1.0.1 (suc (sizes vs) + n) (block_of in_rows vs ++ rest) (flat_terms (suc (suc i)) us (suc (sizes vs) + n) (block_of in_rows vs ++ rest) f.2.2)
        ∙ ap (λ (x : List ℕ). block_of in_bytes us ++ x) (flat_block vs f.3.1.0.1 n rest (flat_terms (suc (suc i + suc (sizes us))) vs n rest f.3.2))))

    flat_terms : (i : ℕ) (ts : Terms) (n : ℕ) (rest : List ℕ) → FormedAll l i ts → flat (sizes ts + n) (lays in_rows ts ++ rest) ≡ lays in_bytes ts ++ flat n rest
    flat_terms i (last t) n rest f = flat_term i t n rest f
    flat_terms i (more t ts) n rest f =
        rw (add_assoc, append_assoc (lay in_rows t), append_assoc (lay in_bytes t))
        (flat_term i t (sizes ts + n) (lays in_rows ts ++ rest) f.0 ∙ ap (λ (x : List ℕ). lay in_bytes t ++ x) (flat_terms (i + size t) ts n rest f.1))

  -- What is written of a tree's rows is the script of the tree.
  pub rows_script : (v : ℕ) (t : Term) → v ≤ newest → Within l t → script_from v (size t) (rows_of l t) ≡ bytes_of (record { version = v; term = t })
  unfolding flat rows_of bytes_of newest
  rows_script v t h w =
      let high : v / 256 % 256 ≡ v / 256 = omega arith in
      ap₂ (λ (y : ℕ) (x : List ℕ). 0x52 ∷ 0x43 ∷ 0x53 ∷ y ∷ v % 256 ∷ x) high
      (ap (λ (n : ℕ). flat n (rows_of l t)) (sym (add-zero (size t))) ∙ flat_term 0 t 0 _ w.formed ∙ append-nil (lay in_bytes t))
