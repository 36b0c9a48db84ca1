-- The two blocks of a choice (LANGUAGE 3.31): what the second is judged from, and what is known after either.
use Rattle.std.specs.Prelude.{ℕ, Bool, true, false, leb}
use Rattle.std.proofs.Math.Option.{Option, none, some}
use Rattle.syntax.specs.Result.{pick}
use Rattle.statics.specs.Links.{same_links}
use Rattle.statics.specs.Places.{unite}
use Rattle.statics.specs.Environment.{places, borrow_end, Slot, free, used, live, Environment, Ty, borrow_of}

-- What the second block is judged from (LANGUAGE 3.31): the state before the choice, but numbers that the first block took stay taken.
abbrev pub carried_slot : Slot → Slot → Slot
carried_slot free free = free
carried_slot free used = used
carried_slot free (live v) = used
carried_slot used a = used
carried_slot (live v) a = live v

-- The same of all numbers: the state before the choice, and that after the first block.
unfoldable pub carried : Environment → Environment → Environment
carried Γ Γ₁ = λ x. carried_slot (Γ x) (Γ₁ x)

-- The link from which on a variable in scope is moved away (LANGUAGE 3.8). It is asked of no other number: who is in scope before a choice is so
-- after either branch.
abbrev pub moved_from_of : Slot → ℕ
moved_from_of free = 0
moved_from_of used = 0
moved_from_of (live v) = v.moved_from

-- The earlier of two links.
unfoldable pub earlier : ℕ → ℕ → ℕ
earlier a b = pick (leb a b) a b

-- What is known after the choice (LANGUAGE 3.31), from the state before it and those after its blocks: a variable is moved away from the earlier
-- of the two links, and its borrow link stands for the places of both.
abbrev pub joined_slot : Slot → Slot → Slot → Slot
joined_slot free a b = carried_slot (carried_slot free a) b
joined_slot used a b = used
joined_slot (live v) a b = live (record {
  chain = v.chain;
  moved_from = earlier (moved_from_of a) (moved_from_of b);
  borrow = borrow_end v.chain (unite (places (borrow_of a)) (places (borrow_of b)));
  level = v.level;
})

-- The same of all numbers.
unfoldable pub joined : Environment → Environment → Environment → Environment
joined Γ Γ₁ Γ₂ = λ x. joined_slot (Γ x) (Γ₁ x) (Γ₂ x)

-- The values of both have equal links, or both are none (39; LANGUAGE 3.31).
unfoldable pub agreeing : Option Ty → Option Ty → Bool
agreeing none none = true
agreeing none (some u) = false
agreeing (some t) none = false
agreeing (some t) (some u) = same_links t.links u.links

-- The value of either block, where they agree (LANGUAGE 3.31): the places of both.
abbrev pub either : Option Ty → Option Ty → Option Ty
either none o = none
either (some t) none = none
either (some t) (some u) = some (record { links = t.links; borrow = borrow_end t.links (unite (places t.borrow) (places u.borrow)) })
