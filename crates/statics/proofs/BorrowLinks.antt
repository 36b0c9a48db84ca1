-- With a link after the boxes there is a borrow link.
use Prim.Native.Nat.{◌<◌}
use native.Mathlib.Omega.{arith}
use mathlib.Core.Path.{◌≡◌, refl}
use mathlib.Core.Bool.{true}
use mathlib.Core.List.{List, [], ◌∷◌}
use lib.ListN.{length}
use Rattle.syntax.specs.Script.{Place}
use Rattle.statics.specs.Links.{Link, boxed, shared, exclusive, leading_boxes}
use Rattle.statics.specs.Environment.{borrow_end}
use Rattle.statics.specs.Follow.{is_borrow}

pub is_linked : (ks : List Link) (ps : List Place) → leading_boxes ks < length ks → is_borrow (borrow_end ks ps) ≡ true
unfolding borrow_end leading_boxes
is_linked [] ps h = absurd (omega arith)
is_linked (boxed ∷ ks) ps h = is_linked ks ps (omega arith)
is_linked (shared ∷ ks) ps h = refl
is_linked (exclusive ∷ ks) ps h = refl
