-- The invariant where a run begins.
use Prim.Native.Nat.{ℕ}
use native.Mathlib.Omega.{arith}
use mathlib.Core.Path.{◌≡◌, refl}
use mathlib.Core.Option.{none}
use Rattle.statics.specs.Uses.{Unfinished}
use Rattle.statics.specs.Judge.{nothing_taken}
use Rattle.statics.proofs.Slots.{free≢live}
use Rattle.dynamics.specs.Values.{Value, empty, closed}
use Rattle.dynamics.specs.Store.{Store}
use Rattle.dynamics.specs.Run.{begun}
use Rattle.dynamics.proofs.Apart.{open≢closed}
use Rattle.safety.proofs.Memory.{in_flight, in_drop, var, Spot, top, in_cell, no_row, has}
use Rattle.safety.proofs.Lifted.{lift}
use Rattle.safety.proofs.Ghost.{vacant}
use Rattle.safety.proofs.Covering.{covers_free, covers_used, vacant≢live}
use Rattle.safety.proofs.Invariant.{Invariant}

all_closed : (q : Spot) → lift (λ l. closed) closed closed q ≡ closed
all_closed (top in_flight) = refl
all_closed (top in_drop) = refl
all_closed (top (var x)) = refl
all_closed (in_cell c) = refl

no_row≢has : {A : Type 0} {n : ℕ} {v : Value} → no_row ≡ has n v → A
no_row≢has e = let z : ◌≡◌ {A = ℕ} 0 1 = cc in absurd (omega arith)

-- No name has a row, and none is in scope.
pub start : (nv : ℕ) (ns : Unfinished) (earlier : Store) → Invariant nv ns (nothing_taken nv) none 0 (begun earlier) empty
start nv ns earlier = record {
  Θ = λ z. vacant;
  H = λ z. no_row;
  ρ = λ x d. top x;
  rank = λ x. 0;
  mem = record {
    base = λ x. refl;
    link = λ x n v d e h. no_row≢has e;
    leaf = λ x n v e. no_row≢has e;
    plain = λ x n v e. no_row≢has e;
    shut = λ x e. all_closed (top x);
    distinct = λ x y n m v u d e hx. no_row≢has hx;
    owned = λ c u e. absurd (open≢closed e (all_closed (in_cell c)));
    untaken = λ c h. refl;
    taken = λ c h. absurd (omega arith);
  };
  typed = record {
    at = λ x q e. absurd (vacant≢live e);
    bound = λ x q e. absurd (vacant≢live e);
    quiet = λ q e. vacant≢live e;
    exclusive = λ x y a b p q K. absurd (vacant≢live K.is);
    absent = λ x g h. refl;
  };
  vars = λ x. covers_free;
  flight = covers_used;
  idle = refl;
  nothing = λ e. refl;
  deep = λ x q e. absurd (free≢live e);
  scope = λ x q e. absurd (free≢live e);
}
