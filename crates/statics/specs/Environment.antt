-- What is known of each variable number (LANGUAGE 3.6 to 3.10), and of a value (3.2, 3.3), and what writing to a variable and leaving a block do to
-- it (3.25, 3.28).
use Rattle.std.specs.Prelude.{ℕ, suc, Bool, true, false, List, [], ◌∷◌, leb, ltb, eqb}
use Rattle.syntax.specs.Result.{pick}
use Rattle.syntax.specs.Script.{Place}
use Rattle.statics.specs.Links.{Link, boxed, shared, exclusive, leading_boxes}
use Rattle.statics.specs.Places.{every, unite, rooted}

-- The borrow end (LANGUAGE 3.3): the places that the first borrow link stands for, if there is such a link.
pub data Borrow : Type 0 where
  no_borrow : Borrow
  shared_of exclusive_of : List Place → Borrow

-- The borrowed places (LANGUAGE 3.3).
abbrev pub places : Borrow → List Place
places no_borrow = []
places (shared_of ps) = ps
places (exclusive_of ps) = ps

-- The borrow end of a chain, with these places (LANGUAGE 3.3).
unfoldable pub borrow_end : List Link → List Place → Borrow
borrow_end [] ps = no_borrow
borrow_end (boxed ∷ ks) ps = borrow_end ks ps
borrow_end (shared ∷ ks) ps = shared_of ps
borrow_end (exclusive ∷ ks) ps = exclusive_of ps

-- A variable in scope (LANGUAGE 3.8). Its links before `moved_from` are whole, those from there on moved away; where nothing is
-- moved away, `moved_from` is one past its own positions (3.9). `level` is how many blocks
-- are around its let (3.7), not the level of 2.7.
pub record Variable : Type 0 where
  pub chain : List Link
  pub moved_from : ℕ
  pub borrow : Borrow
  pub level : ℕ

-- A number (LANGUAGE 3.6): free; taken, its let not finished or its block left; or in scope.
pub data Slot : Type 0 where
  free used : Slot
  live : Variable → Slot

-- The state of every number (LANGUAGE 3.1).
abbrev pub Environment : Type 0
Environment = ℕ → Slot

-- The value of a term (LANGUAGE 3.3): its links, and its borrow end.
pub record Ty : Type 0 where
  pub links : List Link
  pub borrow : Borrow

unfoldable pub update : Environment → ℕ → Slot → Environment
update Γ x s = λ y. pick (eqb x y) s (Γ y)

-- A variable with nothing moved away, as its let leaves it (LANGUAGE 3.24).
abbrev pub fresh : List Link → Borrow → ℕ → Variable
fresh ks b l = record { chain = ks; moved_from = suc (leading_boxes ks); borrow = b; level = l }

-- The mark of a move (LANGUAGE 3.20): moved away from position d on.
abbrev pub moved_away : Variable → ℕ → Variable
moved_away v d = record { chain = v.chain; moved_from = d; borrow = v.borrow; level = v.level }

-- The same of a number (LANGUAGE 3.20): what is not in scope stays as it is.
abbrev pub moved_away_at : Slot → ℕ → Slot
moved_away_at free d = free
moved_away_at used d = used
moved_away_at (live v) d = live (moved_away v d)

-- A variable that a value is written to (LANGUAGE 3.25): whole again, with the new value's borrow end.
abbrev pub refilled : Slot → Borrow → Slot
refilled free b = free
refilled used b = used
refilled (live v) b = live (fresh v.chain b v.level)

-- One of several that a value may be written to (LANGUAGE 3.25): the new value's places are added to the old ones, and what is moved away
-- stays so.
abbrev pub wider : Variable → Borrow → Variable
wider v b = record { chain = v.chain; moved_from = v.moved_from; borrow = borrow_end v.chain (unite (places v.borrow) (places b)); level = v.level }

-- The same of a number (LANGUAGE 3.25): what is not in scope stays as it is.
abbrev pub widened : Slot → Borrow → Slot
widened free b = free
widened used b = used
widened (live v) b = live (wider v b)

-- Exactly one.
abbrev pub single : List Place → Bool
single [] = false
single (q ∷ []) = true
single (q ∷ r ∷ qs) = false

-- A value with this borrow end is written to one of these places (LANGUAGE 3.25). Places that are met have different roots (7.5), so several
-- places are several variables.
unfoldable pub write : Environment → List Place → Borrow → Environment
write Γ qs b = λ x. pick (rooted qs x) (pick (single qs) (refilled (Γ x) b) (widened (Γ x) b)) (Γ x)

-- Not taken (30; LANGUAGE 3.6).
unfoldable pub is_free : Slot → Bool
is_free free = true
is_free used = false
is_free (live v) = false

-- How many blocks the variable lives in (LANGUAGE 3.7).
unfoldable pub level_of : Slot → ℕ
level_of free = 0
level_of used = 0
level_of (live v) = v.level

-- The borrow end of a variable in scope (LANGUAGE 3.8).
unfoldable pub borrow_of : Slot → Borrow
borrow_of free = no_borrow
borrow_of used = no_borrow
borrow_of (live v) = v.borrow

-- The places that are borrowed by what stands at any of these, which are own positions: whichever it is, what comes there first that borrows is the
-- variable's first borrow link (LANGUAGE 3.9, 3.19, 3.21).
unfoldable pub borrows_at : Environment → List Place → List Place
borrows_at Γ [] = []
borrows_at Γ (q ∷ qs) = unite (places (borrow_of (Γ q.root))) (borrows_at Γ qs)

-- The borrowed roots, if any, live at the level or around it (40; LANGUAGE 3.25, 3.28).
unfoldable pub lives_at : Environment → Borrow → ℕ → Bool
lives_at Γ b l = every (λ p. leb (level_of (Γ p.root)) l) (places b)

-- The end of a block (LANGUAGE 3.28): the variables deeper than the level leave scope.
unfoldable pub leave_slot : ℕ → Slot → Slot
leave_slot l free = free
leave_slot l used = used
leave_slot l (live v) = pick (ltb l v.level) used (live v)

-- The same of all numbers (LANGUAGE 3.28).
unfoldable pub leave : ℕ → Environment → Environment
leave l Γ = λ x. leave_slot l (Γ x)

-- Holding (LANGUAGE 3.10): the first borrow link is not moved away.
unfoldable pub holding : Variable → Bool
holding v = ltb (leading_boxes v.chain) v.moved_from
