-- The numbers that operands are written as, and how many operands a kind has.
use Prim.Native.Nat.{ℕ, suc, ◌-◌}
use mathlib.Core.Path.{◌≡◌, refl, ap}
use mathlib.Core.List.{List, [], ◌∷◌, ◌++◌}
use lib.ListN.{length}
use Rattle.syntax.specs.Kinds.{Field, word, until}
use Rattle.syntax.specs.Layout.{Form, in_bytes, in_rows, zeros, word_of, unused}
use Rattle.syntax.specs.Within.{Ranges}

-- The bound of a number of a form: a byte, or 32 bits.
abbrev pub cap : Form → ℕ
cap in_bytes = 256
cap in_rows = 4294967296

unfoldable pub laid : Form → Field → ℕ → List ℕ
laid w word v = word_of w v
laid w (until a b) v = v ∷ []

unfoldable pub ops : Form → List Field → List ℕ → List ℕ
ops w [] vs = []
ops w (f ∷ fs) [] = []
ops w (f ∷ fs) (v ∷ vs) = laid w f v ++ ops w fs vs

pub as_many : (fs : List Field) (vs : List ℕ) → Ranges fs vs → length vs ≡ length fs
as_many [] [] r = refl
as_many [] (v ∷ vs) r = absurd r
as_many (f ∷ fs) [] r = absurd r
as_many (f ∷ fs) (v ∷ vs) r = ap suc (as_many fs vs r.1)

-- In a row each operand is one number, so the operands leave as many fields unused as their numbers do.
pub unused_ops : (w : Form) (fs : List Field) (vs : List ℕ) → Ranges fs vs → unused w (length vs) ≡ unused w (length (ops w fs vs))
unfolding unused ops laid word_of
unused_ops in_bytes fs vs r = refl
unused_ops in_rows fs vs r = ap (λ (n : ℕ). zeros (4 - n)) (go fs vs r)
  where
    go : (fs : List Field) (vs : List ℕ) → Ranges fs vs → length vs ≡ length (ops in_rows fs vs)
    go [] [] r = refl
    go [] (v ∷ vs) r = absurd r
    go (f ∷ fs) [] r = absurd r
    go (word ∷ fs) (v ∷ vs) r = ap suc (go fs vs r.1)
    go (until a b ∷ fs) (v ∷ vs) r = ap suc (go fs vs r.1)
