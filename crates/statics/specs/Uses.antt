-- Which variables terms name, and in which order terms finish (LANGUAGE 3.32, 3.33).
use Rattle.std.specs.Prelude.{ℕ, zero, suc, Bool, true, false, List, [], ◌∷◌, ◌++◌, eqb}
use Rattle.syntax.specs.Result.{pick}
use Rattle.syntax.specs.Script.{Term, number, reading, copy, move, borrow_shared, borrow_exclusive, box, declare, assign, below, block, choice, sum, Terms, last, more}

-- Terms that have not finished, in the order in which they will, each as the variables that it names.
abbrev pub Unfinished : Type 0
Unfinished = List (List ℕ)

-- One term that names these variables.
abbrev pub naming : List ℕ → Unfinished
naming xs = xs ∷ []

-- A term with all terms in it, in the order in which they finish (LANGUAGE 3.32): it finishes after those in it, so an assign after its right
-- side; the branches of a choice one after the other, then the choice. It names the roots of its places; a let names its variable (3.33).
unfoldable mutual
  pub finishing : Term → Unfinished
  finishing (number i n) = naming []
  finishing (reading i n) = naming []
  finishing (copy i p) = naming (p.root ∷ [])
  finishing (move i p) = naming (p.root ∷ [])
  finishing (borrow_shared i p) = naming (p.root ∷ [])
  finishing (borrow_exclusive i p) = naming (p.root ∷ [])
  finishing (box i t) = finishing t ++ naming []
  finishing (declare i x t) = finishing t ++ naming (x ∷ [])
  finishing (assign i p t) = finishing t ++ naming (p.root ∷ [])
  finishing (below i p q) = naming (p.root ∷ q.root ∷ [])
  finishing (block i ts) = finishing_all ts ++ naming []
  finishing (choice i p j us k vs) = (finishing_all us ++ naming []) ++ ((finishing_all vs ++ naming []) ++ naming (p.root ∷ []))
  finishing (sum i p q) = naming (p.root ∷ q.root ∷ [])

  pub finishing_all : Terms → Unfinished
  finishing_all (last t) = finishing t
  finishing_all (more t ts) = finishing t ++ finishing_all ts

-- The variable is one of those.
unfoldable pub names : List ℕ → ℕ → Bool
names [] x = false
names (y ∷ ys) x = elim (eqb y x) [ true ↦ true | false ↦ names ys x ]

-- A term that has not finished names the variable (LANGUAGE 3.33).
unfoldable pub named_later : Unfinished → ℕ → Bool
named_later [] x = false
named_later (xs ∷ ns) x = elim (names xs x) [ true ↦ true | false ↦ named_later ns x ]

-- The last of the terms that names the variable, counted from 1 in the order in which they finish; 0 where none does (LANGUAGE 3.33). A
-- variable is named later exactly while this term has not finished: proofs/LastUse.
unfoldable pub last_naming : Unfinished → ℕ → ℕ
last_naming [] x = 0
last_naming (xs ∷ ns) x = elim (last_naming ns x) [ zero ↦ pick (names xs x) 1 0 | suc k ↦ suc (suc k) ]
