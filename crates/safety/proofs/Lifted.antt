-- The rows of names and cells in a store.
use mathlib.Core.Path.{◌≡◌, refl, sym, ap, ◌∙◌}
use mathlib.Core.Logic.{◌≢◌}
use Rattle.dynamics.specs.Values.{Location, variable, cell, Row}
use Rattle.dynamics.specs.Store.{Store, put}
use Rattle.dynamics.proofs.StoreLaws.{put_same, put_other}
use Rattle.safety.proofs.Memory.{in_flight, in_drop, var, Spot, top, in_cell, top≢cell}

abbrev pub spot_of : Location → Spot
spot_of (variable x) = top (var x)
spot_of (cell c) = in_cell c

-- The store with the rows of the value in flight and of the value being dropped.
abbrev pub lift : Store → Row → Row → Spot → Row
lift S t o (top in_flight) = t
lift S t o (top in_drop) = o
lift S t o (top (var x)) = S (variable x)
lift S t o (in_cell c) = S (cell c)

pub lift_at : (S : Store) (t o : Row) (l : Location) → lift S t o (spot_of l) ≡ S l
lift_at S t o (variable x) = refl
lift_at S t o (cell c) = refl

pub spot_inj : (a b : Location) → spot_of a ≡ spot_of b → a ≡ b
spot_inj (variable a) (variable b) e = cc
spot_inj (variable a) (cell b) e = absurd (top≢cell e)
spot_inj (cell a) (variable b) e = absurd (top≢cell (sym e))
spot_inj (cell a) (cell b) e = cc

-- A change of the store below the lift.
pub lift_other : (S : Store) (l : Location) (r : Row) (t o : Row) (q : Spot) → q ≢ spot_of l → lift (put S l r) t o q ≡ lift S t o q
lift_other S l r t o (top in_flight) h = refl
lift_other S l r t o (top in_drop) h = refl
lift_other S l r t o (top (var x)) h = put_other S l r (variable x) (λ e. h (ap spot_of e))
lift_other S l r t o (in_cell c) h = put_other S l r (cell c) (λ e. h (ap spot_of e))

pub lift_same : (S : Store) (l : Location) (r : Row) (t o : Row) → lift (put S l r) t o (spot_of l) ≡ r
lift_same S l r t o = lift_at (put S l r) t o l ∙ put_same S l r

pub lift_drop : (S : Store) (t o o' : Row) (q : Spot) → q ≢ top in_drop → lift S t o q ≡ lift S t o' q
lift_drop S t o o' (top in_flight) h = refl
lift_drop S t o o' (top in_drop) h = absurd (h refl)
lift_drop S t o o' (top (var x)) h = refl
lift_drop S t o o' (in_cell c) h = refl

pub lift_flight : (S : Store) (t t' o : Row) (q : Spot) → q ≢ top in_flight → lift S t o q ≡ lift S t' o q
lift_flight S t t' o (top in_flight) h = absurd (h refl)
lift_flight S t t' o (top in_drop) h = refl
lift_flight S t t' o (top (var x)) h = refl
lift_flight S t t' o (in_cell c) h = refl

-- Two stores that differ in one row.
pub lift_agree : (A S : Store) (loc : Location) (t o : Row) (q : Spot) → ((l : Location) → l ≢ loc → A l ≡ S l) → q ≢ spot_of loc
    → lift A t o q ≡ lift S t o q
lift_agree A S loc t o (top in_flight) h n = refl
lift_agree A S loc t o (top in_drop) h n = refl
lift_agree A S loc t o (top (var x)) h n = h (variable x) (λ e. n (ap spot_of e))
lift_agree A S loc t o (in_cell c) h n = h (cell c) (λ e. n (ap spot_of e))
