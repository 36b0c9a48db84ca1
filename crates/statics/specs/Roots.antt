-- Sets of places by their roots alone: what code keeps of them. In a neat state the roots, and how many links are left, say the places:
-- of a recorded set (left: what is behind the holder's borrow link), and of what is met while following.
use Rattle.std.specs.Prelude.{ℕ, zero, suc, ◌-◌, Bool, true, false, List, [], ◌∷◌, length, ltb, eqb}
use Rattle.syntax.specs.Result.{pick}
use Rattle.syntax.specs.Script.{Place}
use Rattle.statics.specs.Links.{Link, leading_boxes}
use Rattle.statics.specs.Places.{rooted}
use Rattle.statics.specs.Environment.{places, borrow_end, Slot, free, used, live, Environment, borrow_of}
use Rattle.statics.specs.Follow.{own_link}
use Rattle.statics.specs.Neat.{place, behind}
use Rattle.statics.specs.Closure.{Closure}

-- How many links a variable has.
unfoldable pub links_of : Slot → ℕ
links_of free = 0
links_of used = 0
links_of (live v) = length v.chain

abbrev pub lengths : Environment → ℕ → ℕ
lengths Γ x = links_of (Γ x)

-- ---- the places of a set of roots

-- The place with this root that has m links left; `long` says how many each variable has.
abbrev pub place_at : (ℕ → ℕ) → ℕ → ℕ → Place
place_at long m x = place x (long x - m)

-- The place first, if it counts.
abbrev pub kept : Bool → Place → List Place → List Place
kept true p ps = p ∷ ps
kept false p ps = ps

-- Those whose root is one of the n numbers from x on and in the set, in order.
unfoldable pub places_from : (ℕ → Bool) → (ℕ → ℕ) → ℕ → ℕ → ℕ → List Place
places_from roots long m x zero = []
places_from roots long m x (suc n) = kept (roots x) (place_at long m x) (places_from roots long m (suc x) n)

-- All of them.
unfoldable pub places_of : ℕ → (ℕ → Bool) → (ℕ → ℕ) → ℕ → List Place
places_of nv roots long m = places_from roots long m 0 nv

-- How many links are behind the borrow link of a holder with these links.
abbrev pub left : List Link → ℕ
left ks = length (behind ks)

-- ---- a whole environment

-- What is kept of a number: of a variable in scope its links, from where it is moved away, the roots of its places, and its level.
pub data Entry : Type 0 where
  not_taken taken : Entry
  in_scope : List Link → ℕ → (ℕ → Bool) → ℕ → Entry

abbrev pub entry_of : Slot → Entry
entry_of free = not_taken
entry_of used = taken
entry_of (live v) = in_scope v.chain v.moved_from (rooted (places v.borrow)) v.level

unfoldable pub links_in : Entry → ℕ
links_in not_taken = 0
links_in taken = 0
links_in (in_scope ks d roots level) = length ks

-- The number's state again, from its entry; `long` says how many links each variable has.
abbrev pub slot_of : ℕ → (ℕ → ℕ) → Entry → Slot
slot_of nv long not_taken = free
slot_of nv long taken = used
slot_of nv long (in_scope ks d roots level) = live (record { chain = ks; moved_from = d; borrow = borrow_end ks (places_of nv roots long (left ks)); level = level })

-- The environment that the entries stand for.
unfoldable pub environment_of : ℕ → (ℕ → Entry) → Environment
environment_of nv entries = λ x. slot_of nv (λ y. links_in (entries y)) (entries x)

-- ---- following

-- With m links left, the borrow link of the variable is passed.
unfoldable pub goes_on : Slot → ℕ → Bool
goes_on free m = false
goes_on used m = false
goes_on (live v) m = ltb (leading_boxes v.chain) (length v.chain - m)

-- So following goes on from y to z, in which y holds a place.
unfoldable pub leads : Environment → ℕ → ℕ → ℕ → Bool
leads Γ m y z = pick (goes_on (Γ y) m) (rooted (places (borrow_of (Γ y))) z) false

-- The variables met from x on with m links left, as a set.
abbrev pub MetFrom : Environment → ℕ → ℕ → (ℕ → Bool) → Type 0
MetFrom Γ m x met = Closure (eqb x) (leads Γ m) met

-- Of these, the ones in which it ends.
abbrev pub ends_of : Environment → ℕ → (ℕ → Bool) → ℕ → Bool
ends_of Γ m met x = pick (met x) (own_link (Γ x) (links_of (Γ x) - m)) false
