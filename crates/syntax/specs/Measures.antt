-- What the limits count of a term (LANGUAGE 2.8): terms, boxes, levels, bytes; the version that it needs (2.3); and its kind.
use Rattle.std.specs.Prelude.{ℕ, suc, ◌+◌, max}
use Rattle.syntax.specs.Script.{Term, Terms, Whole, number, reading, copy, move, borrow_shared, borrow_exclusive, box, declare, assign, below, block, choice, sum, last, more}
use Rattle.syntax.specs.Kinds.{Kind, k_number, k_reading, k_copy, k_move, k_shared, k_exclusive, k_box, k_let, k_assign, k_below, k_block, k_choice, k_sum, added_in}

unfoldable mutual
  -- Its terms, itself included (LANGUAGE 2.6).
  pub size : Term → ℕ
  size (number i n) = 1
  size (reading i n) = 1
  size (copy i p) = 1
  size (move i p) = 1
  size (borrow_shared i p) = 1
  size (borrow_exclusive i p) = 1
  size (box i t) = suc (size t)
  size (declare i x t) = suc (size t)
  size (assign i p t) = suc (size t)
  size (below i p q) = 1
  size (block i ts) = suc (sizes ts)
  size (choice i p j us k vs) = suc (suc (sizes us) + suc (sizes vs))
  size (sum i p q) = 1

  pub sizes : Terms → ℕ
  sizes (last t) = size t
  sizes (more t ts) = size t + sizes ts

unfoldable mutual
  -- Its box terms (LANGUAGE 2.8).
  pub boxes_in : Term → ℕ
  boxes_in (number i n) = 0
  boxes_in (reading i n) = 0
  boxes_in (copy i p) = 0
  boxes_in (move i p) = 0
  boxes_in (borrow_shared i p) = 0
  boxes_in (borrow_exclusive i p) = 0
  boxes_in (box i t) = suc (boxes_in t)
  boxes_in (declare i x t) = boxes_in t
  boxes_in (assign i p t) = boxes_in t
  boxes_in (below i p q) = 0
  boxes_in (block i ts) = boxes_all ts
  boxes_in (choice i p j us k vs) = boxes_all us + boxes_all vs
  boxes_in (sum i p q) = 0

  pub boxes_all : Terms → ℕ
  boxes_all (last t) = boxes_in t
  boxes_all (more t ts) = boxes_in t + boxes_all ts

unfoldable mutual
  -- Its levels (LANGUAGE 2.7): an inner term is one deeper than the term that it stands in.
  pub depth : Term → ℕ
  depth (number i n) = 1
  depth (reading i n) = 1
  depth (copy i p) = 1
  depth (move i p) = 1
  depth (borrow_shared i p) = 1
  depth (borrow_exclusive i p) = 1
  depth (box i t) = suc (depth t)
  depth (declare i x t) = suc (depth t)
  depth (assign i p t) = suc (depth t)
  depth (below i p q) = 1
  depth (block i ts) = suc (depths ts)
  depth (choice i p j us k vs) = suc (suc (max (depths us) (depths vs)))
  depth (sum i p q) = 1

  pub depths : Terms → ℕ
  depths (last t) = depth t
  depths (more t ts) = max (depth t) (depths ts)

unfoldable mutual
  -- Its bytes (LANGUAGE 2.3).
  pub weight : Term → ℕ
  weight (number i n) = 5
  weight (reading i n) = 2
  weight (copy i p) = 3
  weight (move i p) = 3
  weight (borrow_shared i p) = 3
  weight (borrow_exclusive i p) = 3
  weight (box i t) = 1 + weight t
  weight (declare i x t) = 2 + weight t
  weight (assign i p t) = 3 + weight t
  weight (below i p q) = 5
  weight (block i ts) = 2 + weights ts
  weight (choice i p j us k vs) = 3 + ((2 + weights us) + (2 + weights vs))
  weight (sum i p q) = 5

  pub weights : Terms → ℕ
  weights (last t) = weight t
  weights (more t ts) = weight t + weights ts

unfoldable mutual
  -- The earliest version that has all its kinds (LANGUAGE 2.3); 0 where every version has them.
  pub version_in : Term → ℕ
  version_in (number i n) = 0
  version_in (reading i n) = 0
  version_in (copy i p) = 0
  version_in (move i p) = 0
  version_in (borrow_shared i p) = 0
  version_in (borrow_exclusive i p) = 0
  version_in (box i t) = version_in t
  version_in (declare i x t) = version_in t
  version_in (assign i p t) = version_in t
  version_in (below i p q) = 0
  version_in (block i ts) = versions_in ts
  version_in (choice i p j us k vs) = max (added_in k_choice) (max (versions_in us) (versions_in vs))
  version_in (sum i p q) = added_in k_sum

  pub versions_in : Terms → ℕ
  versions_in (last t) = version_in t
  versions_in (more t ts) = max (version_in t) (versions_in ts)

-- The bytes of a whole script (LANGUAGE 2.1): mark, version and term.
unfoldable pub byte_length : Whole → ℕ
byte_length s = 5 + weight s.term

-- Its kind (LANGUAGE 2.3).
unfoldable pub kind_in : Term → Kind
kind_in (number i n) = k_number
kind_in (reading i n) = k_reading
kind_in (copy i p) = k_copy
kind_in (move i p) = k_move
kind_in (borrow_shared i p) = k_shared
kind_in (borrow_exclusive i p) = k_exclusive
kind_in (box i t) = k_box
kind_in (declare i x t) = k_let
kind_in (assign i p t) = k_assign
kind_in (below i p q) = k_below
kind_in (block i ts) = k_block
kind_in (choice i p j us k vs) = k_choice
kind_in (sum i p q) = k_sum
