-- The memory layer: names own chains of cells. There are no types in it.
use Prim.Native.Nat.{ℕ, zero, suc, ◌≤◌, ◌<◌}
use native.Mathlib.Omega.{arith}
use native.Mathlib.Decide.{ℕ_discrete, dec_lt}
use mathlib.Core.Path.{◌≡◌, refl, sym, ap, ◌∙◌}
use mathlib.Core.Logic.{◌≢◌, ◌⊎◌, inl, inr}
use Rattle.dynamics.specs.Values.{Location, Value, empty, num, owner, reference, Row, closed, open_with}

-- Who has a value: the value in flight from term to term, the value being dropped, a variable of the script.
pub data Name : Type 0 where
  in_flight in_drop : Name
  var : ℕ → Name

-- Where a value stands: in a name's own row, or in a cell.
pub data Spot : Type 0 where
  top : Name → Spot
  in_cell : ℕ → Spot

-- What a name has: no row, or n cells one behind the other from its own row on, and a value in the last.
pub data Content : Type 0 where
  no_row : Content
  has : ℕ → Value → Content

pub name_dec : (a b : Name) → Dec (a ≡ b)
name_dec in_flight in_flight = yes refl
name_dec in_flight in_drop = no (λ e. let z : ◌≡◌ {A = ℕ} 0 1 = cc in omega arith)
name_dec in_flight (var y) = no (λ e. let z : ◌≡◌ {A = ℕ} 0 1 = cc in omega arith)
name_dec in_drop in_flight = no (λ e. let z : ◌≡◌ {A = ℕ} 0 1 = cc in omega arith)
name_dec in_drop in_drop = yes refl
name_dec in_drop (var y) = no (λ e. let z : ◌≡◌ {A = ℕ} 0 1 = cc in omega arith)
name_dec (var x) in_flight = no (λ e. let z : ◌≡◌ {A = ℕ} 0 1 = cc in omega arith)
name_dec (var x) in_drop = no (λ e. let z : ◌≡◌ {A = ℕ} 0 1 = cc in omega arith)
name_dec (var x) (var y) = elim (ℕ_discrete x y) [ yes e ↦ yes (ap var e) | no h ↦ no (λ e. h (cc)) ]

pub spot_dec : (a b : Spot) → Dec (a ≡ b)
spot_dec (top x) (top y) = elim (name_dec x y) [ yes e ↦ yes (ap top e) | no h ↦ no (λ e. h (cc)) ]
spot_dec (top x) (in_cell y) = no (λ e. let z : ◌≡◌ {A = ℕ} 0 1 = cc in omega arith)
spot_dec (in_cell x) (top y) = no (λ e. let z : ◌≡◌ {A = ℕ} 0 1 = cc in omega arith)
spot_dec (in_cell x) (in_cell y) = elim (ℕ_discrete x y) [ yes e ↦ yes (ap in_cell e) | no h ↦ no (λ e. h (cc)) ]

-- A value that owns nothing.
pub data Plain : Value → Type 0 where
  p_empty : Plain empty
  p_num : (n : ℕ) → Plain (num n)
  p_ref : (l : Location) → Plain (reference l)

-- Own link d of x leads to a cell.
abbrev pub Linked : (Spot → Row) → (Name → ℕ → Spot) → Name → ℕ → Type 0
Linked S ρ x d = (c : ℕ) × (S (ρ x d) ≡ open_with (owner c)) × (ρ x (suc d) ≡ in_cell c)

-- Some name owns the cell.
abbrev pub Owned : (Name → Content) → (Name → ℕ → Spot) → ℕ → Type 0
Owned H ρ c = (x : Name) × (n : ℕ) × (v : Value) × (d : ℕ) × (H x ≡ has n v) × (d ≤ n) × (ρ x d ≡ in_cell c)

-- H says what each name has, S what stands where, k how many cells are taken, and ρ x d where own link d of x is.
pub record Memory (H : Name → Content) (S : Spot → Row) (k : ℕ) (ρ : Name → ℕ → Spot) : Type 0 where
  -- A name's chain is as H says,
  pub base : (x : Name) → ρ x 0 ≡ top x
  pub link : (x : Name) (n : ℕ) (v : Value) (d : ℕ) → H x ≡ has n v → d < n → Linked S ρ x d
  pub leaf : (x : Name) (n : ℕ) (v : Value) → H x ≡ has n v → S (ρ x n) ≡ open_with v
  pub plain : (x : Name) (n : ℕ) (v : Value) → H x ≡ has n v → Plain v
  pub shut : (x : Name) → H x ≡ no_row → S (top x) ≡ closed
  -- No two names share a row,
  pub distinct : (x y : Name) (n m : ℕ) (v u : Value) (d e : ℕ) → H x ≡ has n v → d ≤ n → H y ≡ has m u → e ≤ m → ρ x d ≡ ρ y e → (x ≡ y) × (d ≡ e)
  -- And every open cell is some name's.
  pub owned : (c : ℕ) (u : Value) → S (in_cell c) ≡ open_with u → Owned H ρ c
  -- The cells taken are the first k, and no others were ever open.
  pub untaken : (c : ℕ) → k ≤ c → S (in_cell c) ≡ closed
  pub taken : (c : ℕ) → c < k → S (in_cell c) ≢ closed

-- One of two names.
pub either_dec : (a b z : Name) → Dec ((z ≡ a) ⊎ (z ≡ b))
either_dec a b z = go (name_dec z a) (name_dec z b)
  where
    go : Dec (z ≡ a) → Dec (z ≡ b) → Dec ((z ≡ a) ⊎ (z ≡ b))
    go (yes p) q = yes (inl p)
    go (no p) (yes q) = yes (inr q)
    go (no p) (no q) = no (λ u. elim u [ inl k ↦ p k | inr k ↦ q k ])

-- ---- small facts

pub var≢flight : {n : ℕ} → var n ≡ in_flight → ⊥
var≢flight e = let z : ◌≡◌ {A = ℕ} 0 1 = cc in omega arith

pub var≢drop : {n : ℕ} → var n ≡ in_drop → ⊥
var≢drop e = let z : ◌≡◌ {A = ℕ} 0 1 = cc in omega arith

pub drop≢flight : in_drop ≡ in_flight → ⊥
drop≢flight e = let z : ◌≡◌ {A = ℕ} 0 1 = cc in omega arith

pub top≢cell : {x : Name} {c : ℕ} → top x ≡ in_cell c → ⊥
top≢cell e = let z : ◌≡◌ {A = ℕ} 0 1 = cc in omega arith

pub has≢no_row : {s : Content} {n : ℕ} {v : Value} → s ≡ has n v → s ≡ no_row → ⊥
has≢no_row e f = let z : ◌≡◌ {A = ℕ} 0 1 = cc in omega arith

module _ {H : Name → Content} {S : Spot → Row} {k : ℕ} {ρ : Name → ℕ → Spot} (m : Memory H S k ρ) where
  -- A name's rows are open.
  pub row_open : (x : Name) (n : ℕ) (v : Value) (d : ℕ) → H x ≡ has n v → d ≤ n → (u : Value) × (S (ρ x d) ≡ open_with u)
  row_open x n v d e h = go (dec_lt d n)
    where
      go : Dec (d < n) → (u : Value) × (S (ρ x d) ≡ open_with u)
      go (yes q) = let l = m.link x n v d e q in (owner l.0, l.1)
      go (no q) = let z : d ≡ n = omega arith in (v, rw z (m.leaf x n v e))

  -- A name's row that is the own row of a name is its own.
  pub top_only : (x y : Name) (n : ℕ) (v : Value) (d : ℕ) → H x ≡ has n v → d ≤ n → ρ x d ≡ top y → x ≡ y
  top_only x y n v zero e h q = let b = m.base x in cc
  top_only x y n v (suc d) e h q = let l = m.link x n v d e h in absurd (top≢cell (sym q ∙ l.2))
