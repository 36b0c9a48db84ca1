-- What every state is like that judging reaches: it is *neat*. Each recorded place is in scope, no deeper than its holder, long enough,
-- and after it come the links that come after its holder's borrow link. So the follows of a recorded place are known from its root.
use Rattle.std.specs.Prelude.{ℕ, suc, ◌≤◌, ◌<◌, ◌≡◌, ◌⊎◌, true, List, [], ◌∷◌, length, drop}
use Rattle.std.proofs.Math.Option.{Option, some}
use Rattle.syntax.specs.Script.{Place, Term, number, reading, copy, move, borrow_shared, borrow_exclusive, box, declare, assign, below, block, choice, sum, Terms, last, more}
use Rattle.statics.specs.Links.{Link, leading_boxes}
use Rattle.statics.specs.Places.{before}
use Rattle.statics.specs.Environment.{Borrow, places, borrow_end, Variable, live, Environment, Ty}

abbrev pub place : ℕ → ℕ → Place
place x r = record { root = x; follows = r }

abbrev pub Among : Place → List Place → Type 0
Among p [] = ⊥
Among p (q ∷ qs) = (p ≡ q) ⊎ Among p qs

-- No place twice.
abbrev pub Distinct : List Place → Type 0
Distinct [] = Unit {0}
Distinct (p ∷ ps) = (Among p ps → ⊥) × Distinct ps

-- The same places, each once in either list.
pub record SameSet (ps qs : List Place) : Type 0 where
  pub to : (p : Place) → Among p ps → Among p qs
  pub from : (p : Place) → Among p qs → Among p ps
  pub once : Distinct ps
  pub once' : Distinct qs

-- In order, so no place twice.
abbrev pub Ordered : List Place → Type 0
Ordered [] = Unit {0}
Ordered (p ∷ ps) = ((q : Place) → Among q ps → before p q ≡ true) × Ordered ps

-- The links after the borrow link.
abbrev pub behind : List Link → List Link
behind ks = drop (suc (leading_boxes ks)) ks

-- A place that something with these links records at this level.
pub record Recorded (Γ : Environment) (ks : List Link) (level : ℕ) (p : Place) : Type 0 where
  pub variable : Variable
  pub is : Γ p.root ≡ live variable
  pub around : variable.level ≤ level
  pub long : p.follows ≤ length variable.chain
  pub rest : drop p.follows variable.chain ≡ behind ks

-- The borrow end of something with these links at this level, of a variable whole or moved away, or of a value.
pub record Holds (Γ : Environment) (ks : List Link) (level : ℕ) (b : Borrow) : Type 0 where
  pub recorded : (p : Place) → Among p (places b) → Recorded Γ ks level p
  pub ordered : Ordered (places b)
  pub end : b ≡ borrow_end ks (places b)

-- nv is the number of variables, level that of the innermost block.
pub record Neat (nv : ℕ) (Γ : Environment) (level : ℕ) : Type 0 where
  pub low : (x : ℕ) (v : Variable) → Γ x ≡ live v → x < nv
  pub deep : (x : ℕ) (v : Variable) → Γ x ≡ live v → v.level ≤ level
  pub holds : (x : ℕ) (v : Variable) → Γ x ≡ live v → Holds Γ v.chain v.level v.borrow

-- The value in flight, if there is one.
abbrev pub NeatValue : Environment → ℕ → Option Ty → Type 0
NeatValue Γ level o = (t : Ty) → o ≡ some t → Holds Γ t.links level t.borrow

-- The lets of a term have numbers below nv.
unfoldable mutual
  pub LetsBelow : ℕ → Term → Type 0
  LetsBelow nv (number i n) = Unit {0}
  LetsBelow nv (reading i n) = Unit {0}
  LetsBelow nv (copy i p) = Unit {0}
  LetsBelow nv (move i p) = Unit {0}
  LetsBelow nv (borrow_shared i p) = Unit {0}
  LetsBelow nv (borrow_exclusive i p) = Unit {0}
  LetsBelow nv (box i t) = LetsBelow nv t
  LetsBelow nv (declare i x t) = (x < nv) × LetsBelow nv t
  LetsBelow nv (assign i p t) = LetsBelow nv t
  LetsBelow nv (below i p q) = Unit {0}
  LetsBelow nv (block i ts) = LetsBelowAll nv ts
  LetsBelow nv (choice i p j us k vs) = LetsBelowAll nv us × LetsBelowAll nv vs
  LetsBelow nv (sum i p q) = Unit {0}

  pub LetsBelowAll : ℕ → Terms → Type 0
  LetsBelowAll nv (last t) = LetsBelow nv t
  LetsBelowAll nv (more t ts) = LetsBelow nv t × LetsBelowAll nv ts
