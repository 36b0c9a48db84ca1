-- Scripts within the limits (LANGUAGE 2.8).
use Rattle.std.specs.Prelude.{ℕ, suc, ◌+◌, ◌≤◌, ◌<◌, ◌≡◌, List, [], ◌∷◌, ◌++◌}
use Rattle.syntax.specs.Limits.{Limits}
use Rattle.syntax.specs.Script.{Term, Terms, Whole, number, reading, copy, move, borrow_shared, borrow_exclusive, box, declare, assign, below, block, choice, sum, last, more}
use Rattle.syntax.specs.Kinds.{k_number, k_reading, k_copy, k_move, k_shared, k_exclusive, k_box, k_let, k_assign, k_below, k_block, k_choice, k_sum, newest, Field, word, until, fields}
use Rattle.syntax.specs.Layout.{place_of, others}
use Rattle.syntax.specs.Measures.{size, sizes, boxes_in, depth, version_in, kind_in}

-- What an operand may be (LANGUAGE 2.4).
abbrev pub InRange : Field → ℕ → Type 0
InRange word v = v < 4294967296
InRange (until a b) v = (a ≤ v) × (v < b)

-- All operands of a term in their ranges (LANGUAGE 2.4).
abbrev pub Ranges : List Field → List ℕ → Type 0
Ranges [] [] = Unit {0}
Ranges [] (v ∷ vs) = ⊥
Ranges (f ∷ fs) [] = ⊥
Ranges (f ∷ fs) (v ∷ vs) = InRange f v × Ranges fs vs

unfoldable mutual
  -- Numbered from i on in byte order (LANGUAGE 2.6), every operand in its range (2.4).
  pub Formed : Limits → ℕ → Term → Type 0
  Formed l i (number j n) = (j ≡ i) × Ranges (fields l k_number) (n ∷ [])
  Formed l i (reading j n) = (j ≡ i) × Ranges (fields l k_reading) (n ∷ [])
  Formed l i (copy j p) = (j ≡ i) × Ranges (fields l k_copy) (place_of p)
  Formed l i (move j p) = (j ≡ i) × Ranges (fields l k_move) (place_of p)
  Formed l i (borrow_shared j p) = (j ≡ i) × Ranges (fields l k_shared) (place_of p)
  Formed l i (borrow_exclusive j p) = (j ≡ i) × Ranges (fields l k_exclusive) (place_of p)
  Formed l i (box j t) = (j ≡ i) × Ranges (fields l k_box) [] × Formed l (suc i) t
  Formed l i (declare j x t) = (j ≡ i) × Ranges (fields l k_let) (x ∷ []) × Formed l (suc i) t
  Formed l i (assign j p t) = (j ≡ i) × Ranges (fields l k_assign) (place_of p) × Formed l (suc i) t
  Formed l i (below j p q) = (j ≡ i) × Ranges (fields l k_below) (place_of p ++ place_of q)
  Formed l i (block j ts) = (j ≡ i) × Ranges (fields l k_block) (suc (others ts) ∷ []) × FormedAll l (suc i) ts
  Formed l i (choice m p j us k vs) =
      (m ≡ i) × Ranges (fields l k_choice) (place_of p)
      × ((j ≡ suc i) × Ranges (fields l k_block) (suc (others us) ∷ []) × FormedAll l (suc (suc i)) us)
      × ((k ≡ suc i + suc (sizes us)) × Ranges (fields l k_block) (suc (others vs) ∷ []) × FormedAll l (suc (suc i + suc (sizes us))) vs)
  Formed l i (sum j p q) = (j ≡ i) × Ranges (fields l k_sum) (place_of p ++ place_of q)

  pub FormedAll : Limits → ℕ → Terms → Type 0
  FormedAll l i (last t) = Formed l i t
  FormedAll l i (more t ts) = Formed l i t × FormedAll l (i + size t) ts

-- A script whose form is right (LANGUAGE 2), in some version. That its bytes are few enough follows for every set: 4,096 terms take no more than 20,485 (2.8).
pub record Within (l : Limits) (t : Term) : Type 0 where
  pub levels : depth t ≤ l.levels
  pub terms : size t ≤ l.terms
  pub boxes : boxes_in t ≤ l.boxes
  pub formed : Formed l 0 t
  pub outermost : kind_in t ≡ k_block

-- A whole script that is allowed (LANGUAGE 2.1): of a version that there is, with the kinds of that version (2.3).
pub record Allowed (l : Limits) (s : Whole) : Type 0 where
  pub version : (1 ≤ s.version) × (s.version ≤ newest)
  pub kinds : version_in s.term ≤ s.version
  pub term : Within l s.term

-- Every number is below n: what the type of a slice says of its elements.
abbrev pub Under : ℕ → List ℕ → Type 0
Under n [] = Unit {0}
Under n (x ∷ xs) = (x < n) × Under n xs
