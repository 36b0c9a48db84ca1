-- Where a place leads (LANGUAGE 3.13): to one of a variable's own links, through its boxes, and beyond its borrow link through the borrowed
-- places; what is moved away on its path (3.14), and whether a value is whole (3.15). Own link k stands for own position k (3.9).
use Rattle.std.specs.Prelude.{ℕ, zero, suc, ◌+◌, ◌-◌, Bool, true, false, List, [], ◌∷◌, length, leb}
use Rattle.std.proofs.Math.Option.{Option, none, some}
use Rattle.syntax.specs.Result.{pick}
use Rattle.syntax.specs.Script.{Place}
use Rattle.statics.specs.Links.{Link, leading_boxes}
use Rattle.statics.specs.Places.{member, every}
use Rattle.statics.specs.Environment.{Borrow, no_borrow, shared_of, exclusive_of, places, Variable, Slot, free, used, live, Environment, holding}

-- These places, with r follows more.
unfoldable pub past : List Place → ℕ → List Place
past [] r = []
past (p ∷ ps) r = record { root = p.root; follows = p.follows + r } ∷ past ps r

-- Where r follows from a variable go on (LANGUAGE 3.13): from the borrowed places, if they pass its borrow link.
unfoldable pub onward : Slot → ℕ → List Place
onward free r = []
onward used r = []
onward (live v) r = pick (leb r (leading_boxes v.chain)) [] (past (places v.borrow) (r - suc (leading_boxes v.chain)))

-- The places met while following; none only if the bound below runs out.
abbrev pub Met : Type 0
Met = Option (List Place)

-- Going on from what was met.
unfoldable pub on_met : Met → (List Place → Met) → Met
on_met none go = none
on_met (some ps) go = go ps

-- Following each of these places, one after the other.
unfoldable pub meet_all : List Place → List Place → (Place → List Place → Met) → Met
meet_all [] seen go = some seen
meet_all (p ∷ ps) seen go = on_met (go p seen) (λ s. meet_all ps s go)

-- The places met while following one, and those seen before (LANGUAGE 3.13): a place met again adds nothing. The first argument bounds the
-- variables passed: with one more than their number it never runs out in a state that judging reaches (7.5).
unfoldable pub follow : ℕ → Environment → Place → List Place → Met
follow zero Γ p seen = none
follow (suc n) Γ p seen =
    pick (member p seen) (some seen) (meet_all (onward (Γ p.root) p.follows) (p ∷ seen) (λ q s. follow n Γ q s))

-- The place is one of the own links of its root: following ends there (LANGUAGE 3.13).
unfoldable pub own_link : Slot → ℕ → Bool
own_link free r = false
own_link used r = false
own_link (live v) r = leb r (leading_boxes v.chain)

-- There is a borrow link. Once 32 is judged, a place that passes all boxes finds one.
abbrev pub is_borrow : Borrow → Bool
is_borrow no_borrow = false
is_borrow (shared_of ps) = true
is_borrow (exclusive_of ps) = true

-- Of the own links of its root that the place passes, none is moved away (33; LANGUAGE 3.14).
unfoldable pub own_path : Slot → ℕ → Bool
own_path free r = false
own_path used r = false
own_path (live v) r = pick (leb r (leading_boxes v.chain)) (leb r v.moved_from) (pick (holding v) (is_borrow v.borrow) false)

-- Nothing of the variable is moved away (LANGUAGE 3.9).
unfoldable pub whole_slot : Slot → Bool
whole_slot free = false
whole_slot used = false
whole_slot (live v) = holding v

-- The same of all that was met (LANGUAGE 3.15); the bound never runs out (7.5).
unfoldable pub whole_there : Environment → Met → Bool
whole_there Γ none = false
whole_there Γ (some ps) = every (λ q. whole_slot (Γ q.root)) ps

-- Nothing is moved away of what the links of variable x lead to, to their end (LANGUAGE 3.15).
abbrev pub whole_to : ℕ → Environment → ℕ → List Link → Bool
whole_to nv Γ x ks = whole_there Γ (follow (suc nv) Γ (record { root = x; follows = length ks }) [])

-- Whole (LANGUAGE 3.15): nothing of the value of variable x is moved away, to the end of its chain.
unfoldable pub value_whole : ℕ → Environment → ℕ → Variable → Bool
value_whole nv Γ x v = whole_to nv Γ x v.chain
