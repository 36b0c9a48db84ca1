-- Sets of places: after a choice a borrow link may stand for several (LANGUAGE 3.3). What is recorded is a list in order, no place twice, so that
-- equal sets are equal lists; what is met while following stands in the order of meeting.
use Rattle.std.specs.Prelude.{ℕ, Bool, true, false, List, [], ◌∷◌, ltb, eqb}
use Rattle.syntax.specs.Result.{pick}
use Rattle.syntax.specs.Script.{Place}

-- The same root and follows (LANGUAGE 2.5).
unfoldable pub same_place : Place → Place → Bool
same_place p q = pick (eqb p.root q.root) (eqb p.follows q.follows) false

-- The order of the list: by the root, then by the follows.
unfoldable pub before : Place → Place → Bool
before p q = pick (eqb p.root q.root) (ltb p.follows q.follows) (ltb p.root q.root)

-- One of them is the place.
unfoldable pub member : Place → List Place → Bool
member p [] = false
member p (q ∷ qs) = pick (same_place p q) true (member p qs)

-- The set with one place more.
unfoldable pub insert : Place → List Place → List Place
insert p [] = p ∷ []
insert p (q ∷ qs) = pick (same_place p q) (q ∷ qs) (pick (before p q) (p ∷ q ∷ qs) (q ∷ insert p qs))

-- The places of both.
unfoldable pub unite : List Place → List Place → List Place
unite [] qs = qs
unite (p ∷ ps) qs = insert p (unite ps qs)

-- All of them are such.
unfoldable pub every : (Place → Bool) → List Place → Bool
every f [] = true
every f (p ∷ ps) = pick (f p) (every f ps) false

-- One of them is such.
unfoldable pub some_of : (Place → Bool) → List Place → Bool
some_of f [] = false
some_of f (p ∷ ps) = pick (f p) true (some_of f ps)

-- Those that are such.
unfoldable pub only : (Place → Bool) → List Place → List Place
only f [] = []
only f (p ∷ ps) = pick (f p) (p ∷ only f ps) (only f ps)

-- One of them has the root.
unfoldable pub rooted : List Place → ℕ → Bool
rooted ps x = some_of (λ p. eqb p.root x) ps
