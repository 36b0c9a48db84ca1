-- A term in its parts: kind, number, operands and inner terms. Each measure is the same sum over the parts for every kind.
-- Soundness and its converse go by these parts, so a further kind is a further line in the tables here, in KindBytes and in Building, and no further proof.
use Prim.Native.Nat.{ℕ, suc, ◌+◌, max}
use native.Mathlib.Omega.{arith}
use mathlib.Core.Path.{◌≡◌, refl, sym, ap, ◌∙◌}
use mathlib.Core.Option.{Option, none, some}
use mathlib.Core.List.{List, [], ◌∷◌, ◌++◌, append-nil, append_assoc}
use Rattle.syntax.specs.Limits.{Limits}
use Rattle.syntax.specs.Script.{Term, Terms, number, reading, copy, move, borrow_shared, borrow_exclusive, box, declare, assign, below, block, choice, sum, last, more}
use Rattle.syntax.specs.Kinds.{k_number, k_choice, byte_of, added_in, fields}
use Rattle.syntax.specs.Layout.{Form, head, place_of, others, lay, lays}
use Rattle.syntax.specs.Reader.{is, boxes_of}
use Rattle.syntax.specs.Measures.{size, sizes, boxes_in, boxes_all, depth, depths, version_in, versions_in, kind_in}
use Rattle.syntax.specs.Within.{Ranges, Formed, FormedAll}
use Rattle.syntax.proofs.OperandLaws.{laid, ops}

unfoldable pub number_in : Term → ℕ
number_in (number i n) = i
number_in (reading i n) = i
number_in (copy i p) = i
number_in (move i p) = i
number_in (borrow_shared i p) = i
number_in (borrow_exclusive i p) = i
number_in (box i t) = i
number_in (declare i x t) = i
number_in (assign i p t) = i
number_in (below i p q) = i
number_in (block i ts) = i
number_in (choice i p j us k vs) = i
number_in (sum i p q) = i

-- The operands, as in the row.
unfoldable pub values : Term → List ℕ
values (number i n) = n ∷ []
values (reading i n) = n ∷ []
values (copy i p) = place_of p
values (move i p) = place_of p
values (borrow_shared i p) = place_of p
values (borrow_exclusive i p) = place_of p
values (box i t) = []
values (declare i x t) = x ∷ []
values (assign i p t) = place_of p
values (below i p q) = place_of p ++ place_of q
values (block i ts) = suc (others ts) ∷ []
values (choice i p j us k vs) = place_of p
values (sum i p q) = place_of p ++ place_of q

unfoldable pub inside : Term → Option Terms
inside (number i n) = none
inside (reading i n) = none
inside (copy i p) = none
inside (move i p) = none
inside (borrow_shared i p) = none
inside (borrow_exclusive i p) = none
inside (box i t) = some (last t)
inside (declare i x t) = some (last t)
inside (assign i p t) = some (last t)
inside (below i p q) = none
inside (block i ts) = some ts
inside (choice i p j us k vs) = some (more (block j us) (last (block k vs)))
inside (sum i p q) = none

-- The measures of what is inside.
unfoldable pub lay_inside : Form → Option Terms → List ℕ
lay_inside w none = []
lay_inside w (some ts) = lays w ts

unfoldable pub size_inside : Option Terms → ℕ
size_inside none = 0
size_inside (some ts) = sizes ts

unfoldable pub boxes_inside : Option Terms → ℕ
boxes_inside none = 0
boxes_inside (some ts) = boxes_all ts

unfoldable pub depth_inside : Option Terms → ℕ
depth_inside none = 0
depth_inside (some ts) = depths ts

unfoldable pub version_inside : Option Terms → ℕ
version_inside none = 0
version_inside (some ts) = versions_in ts

unfoldable pub FormedInside : Limits → ℕ → Option Terms → Type 0
FormedInside l i none = Unit {0}
FormedInside l i (some ts) = FormedAll l i ts

-- The head of a term: its kind and operands, and in rows the unused fields.
abbrev pub head_of : Limits → Form → Term → List ℕ
head_of l w t = head w (kind_in t) (ops w (fields l (kind_in t)) (values t))

pub lay_parts : (l : Limits) (w : Form) (t : Term) → lay w t ≡ head_of l w t ++ lay_inside w (inside t)
unfolding lay lays kind_in values inside lay_inside fields ops laid
lay_parts l w (number i n) = ap (head w k_number) (sym (append-nil _)) ∙ sym (append-nil _)
lay_parts l w (reading i n) = sym (append-nil _)
lay_parts l w (copy i p) = sym (append-nil _)
lay_parts l w (move i p) = sym (append-nil _)
lay_parts l w (borrow_shared i p) = sym (append-nil _)
lay_parts l w (borrow_exclusive i p) = sym (append-nil _)
lay_parts l w (box i t) = refl
lay_parts l w (declare i x t) = refl
lay_parts l w (assign i p t) = refl
lay_parts l w (below i p q) = sym (append-nil _)
lay_parts l w (block i ts) = refl
lay_parts l w (choice i p j us k vs) = append_assoc (head w k_choice (place_of p)) (lay w (block j us)) (lay w (block k vs))
lay_parts l w (sum i p q) = sym (append-nil _)

pub record Counts (t : Term) : Type 0 where
  pub terms : size t ≡ suc (size_inside (inside t))
  pub boxes : boxes_in t ≡ boxes_of (kind_in t) + boxes_inside (inside t)
  pub levels : depth t ≡ suc (depth_inside (inside t))
  pub versions : version_in t ≡ max (added_in (kind_in t)) (version_inside (inside t))

pub counts : (t : Term) → Counts t
unfolding size boxes_in depth version_in kind_in inside size_inside boxes_inside depth_inside version_inside boxes_of is byte_of added_in
counts (number i n) = omega arith
counts (reading i n) = omega arith
counts (copy i p) = omega arith
counts (move i p) = omega arith
counts (borrow_shared i p) = omega arith
counts (borrow_exclusive i p) = omega arith
counts (box i t) = omega arith
counts (declare i x t) = omega arith
counts (assign i p t) = omega arith
counts (below i p q) = omega arith
counts (block i ts) = omega arith
counts (choice i p j us k vs) = omega arith
counts (sum i p q) = omega arith

-- `Formed`, read off the parts.
pub record FormedParts (l : Limits) (i : ℕ) (t : Term) : Type 0 where
  pub number : number_in t ≡ i
  pub ranges : Ranges (fields l (kind_in t)) (values t)
  pub inner : FormedInside l (suc i) (inside t)

pub formed_parts : (l : Limits) (i : ℕ) (t : Term) → Formed l i t → FormedParts l i t
unfolding Formed number_in kind_in values inside FormedInside size
formed_parts l i (number j n) f = record { number = f.0; ranges = f.1; inner = tt }
formed_parts l i (reading j n) f = record { number = f.0; ranges = f.1; inner = tt }
formed_parts l i (copy j p) f = record { number = f.0; ranges = f.1; inner = tt }
formed_parts l i (move j p) f = record { number = f.0; ranges = f.1; inner = tt }
formed_parts l i (borrow_shared j p) f = record { number = f.0; ranges = f.1; inner = tt }
formed_parts l i (borrow_exclusive j p) f = record { number = f.0; ranges = f.1; inner = tt }
formed_parts l i (box j t) f = record { number = f.0; ranges = f.1; inner = f.2 }
formed_parts l i (declare j x t) f = record { number = f.0; ranges = f.1; inner = f.2 }
formed_parts l i (assign j p t) f = record { number = f.0; ranges = f.1; inner = f.2 }
formed_parts l i (below j p q) f = record { number = f.0; ranges = f.1; inner = tt }
formed_parts l i (block j ts) f = record { number = f.0; ranges = f.1; inner = f.2 }
formed_parts l i (choice m p j us k vs) f = record { number = f.0; ranges = f.1; inner = (f.2, f.3) }
formed_parts l i (sum j p q) f = record { number = f.0; ranges = f.1; inner = tt }

pub parts_formed : (l : Limits) (i : ℕ) (t : Term) → FormedParts l i t → Formed l i t
unfolding Formed number_in kind_in values inside FormedInside size
parts_formed l i (number j n) f = (f.number, f.ranges)
parts_formed l i (reading j n) f = (f.number, f.ranges)
parts_formed l i (copy j p) f = (f.number, f.ranges)
parts_formed l i (move j p) f = (f.number, f.ranges)
parts_formed l i (borrow_shared j p) f = (f.number, f.ranges)
parts_formed l i (borrow_exclusive j p) f = (f.number, f.ranges)
parts_formed l i (box j t) f = (f.number, f.ranges, f.inner)
parts_formed l i (declare j x t) f = (f.number, f.ranges, f.inner)
parts_formed l i (assign j p t) f = (f.number, f.ranges, f.inner)
parts_formed l i (below j p q) f = (f.number, f.ranges)
parts_formed l i (block j ts) f = (f.number, f.ranges, f.inner)
parts_formed l i (choice m p j us k vs) f = (f.number, f.ranges, f.inner.0, f.inner.1)
parts_formed l i (sum j p q) f = (f.number, f.ranges)

-- What holds of a term as soon as it holds of every term inside it holds of every term.
module _ (P : Term → Type 0) where
  unfoldable pub All : Terms → Type 0
  All (last t) = P t
  All (more t ts) = P t × All ts

  unfoldable pub AllInside : Option Terms → Type 0
  AllInside none = Unit {0}
  AllInside (some ts) = All ts

  module _ (step : (t : Term) → AllInside (inside t) → P t) where
    mutual
      unfolding All AllInside inside

      pub every : (t : Term) → P t
      every (number i n) = step (number i n) tt
      every (reading i n) = step (reading i n) tt
      every (copy i p) = step (copy i p) tt
      every (move i p) = step (move i p) tt
      every (borrow_shared i p) = step (borrow_shared i p) tt
      every (borrow_exclusive i p) = step (borrow_exclusive i p) tt
      every (box i t) = step (box i t) (every t)
      every (declare i x t) = step (declare i x t) (every t)
      every (assign i p t) = step (assign i p t) (every t)
      every (below i p q) = step (below i p q) tt
      every (block i ts) = step (block i ts) (every_of ts)
      every (choice i p j us k vs) = step (choice i p j us k vs) (step (block j us) (every_of us), step (block k vs) (every_of vs))
      every (sum i p q) = step (sum i p q) tt

      pub every_of : (ts : Terms) → All ts
      every_of (last t) = every t
      every_of (more t ts) = (every t, every_of ts)
