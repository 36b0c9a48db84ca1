-- What the proof asks of the judge about a place: certificates, however they are found. No function of the judge is named here.
use Prim.Native.Nat.{ℕ, suc, ◌+◌, ◌-◌, ◌≤◌, ◌<◌}
use mathlib.Core.Path.{◌≡◌, subst}
use mathlib.Core.Logic.{◌⊎◌}
use mathlib.Core.Bool.{true}
use mathlib.Core.List.{List}
use lib.ListN.{length}
use Rattle.syntax.specs.Script.{Place}
use Rattle.statics.specs.Links.{leading_boxes}
use Rattle.statics.specs.Environment.{places, Variable, live, Environment}
use Rattle.statics.specs.Follow.{is_borrow}
use Rattle.statics.specs.Rules.{Located}
use Rattle.statics.specs.Neat.{place, Among}

-- The places met on the way from p: with each one that goes on behind a borrow link, the places that it goes on to.
pub record Path (Γ : Environment) (p : Place) : Type 0 where
  pub ps : List Place
  pub start : Among p ps
  pub on : (q : Place) (v : Variable) (n : Place) → Among q ps → Γ q.root ≡ live v → leading_boxes v.chain < q.follows
      → Among n (places v.borrow) → Among (place n.root (n.follows + (q.follows - suc (leading_boxes v.chain)))) ps

-- A place ends at an own link of its root that is there, or goes on behind its borrow link, which is not moved away.
pub record Own (Γ : Environment) (q : Place) : Type 0 where
  pub v : Variable
  pub is : Γ q.root ≡ live v
  pub at : ((q.follows ≤ leading_boxes v.chain) × (q.follows ≤ v.moved_from)) ⊎ ((leading_boxes v.chain < q.follows) × (leading_boxes v.chain < v.moved_from) × (is_borrow v.borrow ≡ true))

-- What judging a place gives (31, 32, 33; LANGUAGE 3.16).
pub record Passed (Γ : Environment) (p : Place) (l : Located) : Type 0 where
  pub is : Γ p.root ≡ live l.root
  pub long : p.follows ≤ length l.root.chain
  pub path : Path Γ p
  pub own : (q : Place) → Among q path.ps → Own Γ q
  pub to : (q : Place) (v : Variable) → Among q path.ps → Γ q.root ≡ live v → q.follows ≤ leading_boxes v.chain → Among q l.to

-- What a whole value gives (33; LANGUAGE 3.15): nothing is moved away on the way to the end of the chain.
pub record Whole (Γ : Environment) (x : ℕ) (v : Variable) : Type 0 where
  pub path : Path Γ (place x (length v.chain))
  pub all : (q : Place) → Among q path.ps → (u : Variable) × (Γ q.root ≡ live u) × (leading_boxes u.chain < u.moved_from)

pub root_whole : (Γ : Environment) (x : ℕ) (v : Variable) → Γ x ≡ live v → Whole Γ x v → leading_boxes v.chain < v.moved_from
root_whole Γ x v e W =
    let a = W.all (place x (length v.chain)) W.path.start in
    let z : a.0 ≡ v = let k = a.1 in cc in
    subst (λ (k : Variable). leading_boxes k.chain < k.moved_from) z a.2
