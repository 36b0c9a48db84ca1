-- Answers taken apart, and put together.
use Prim.Native.Nat.{ℕ}
use native.Mathlib.Omega.{arith}
use mathlib.Core.Path.{◌≡◌, refl, sym, ap}
use mathlib.Core.Bool.{Bool, true, false, false≢true}
use mathlib.Core.Option.{Option, none, some}
use Rattle.syntax.specs.Result.{Result, ok, err, Refusal, ◌>>=◌}
use Rattle.syntax.specs.Script.{Place}
use mathlib.Core.List.{List}
use Rattle.statics.specs.Environment.{Variable, Slot, free, used, live, Ty, is_free}
use Rattle.statics.specs.Follow.{Met}
use Rattle.statics.specs.Rules.{in_scope, reached, valued}

pub none≢some : {X : Type 0} {x : X} → ◌≡◌ {A = Option X} none (some x) → ⊥
none≢some e = let z : ◌≡◌ {A = ℕ} 0 1 = cc in omega arith

pub err≢ok : {E A : Type 0} {e : E} {a : A} → ◌≡◌ {A = Result E A} (err e) (ok a) → ⊥
err≢ok q = let z : ◌≡◌ {A = ℕ} 0 1 = cc in omega arith

pub same_answer : {E A : Type 0} {a b : A} → ◌≡◌ {A = Result E A} (ok a) (ok b) → a ≡ b
same_answer q = cc

-- Two chains give the same if their steps do.
pub same_steps : {E A B : Type 0} (m n : Result E A) (f g : A → Result E B) → m ≡ n → ((a : A) → n ≡ ok a → f a ≡ g a) → (m >>= f) ≡ (n >>= g)
unfolding ◌>>=◌
same_steps m (ok a) f g e h = rw e (h a refl)
same_steps m (err x) f g e h = rw e refl

pub scoped : (sl : Slot) (e : Refusal) (v : Variable) → in_scope sl e ≡ ok v → sl ≡ live v
unfolding in_scope
scoped free e v h = absurd (err≢ok h)
scoped used e v h = absurd (err≢ok h)
scoped (live u) e v h = ap live (cc)

pub was_found : (o : Met) (e : Refusal) (ps : List Place) → reached o e ≡ ok ps → o ≡ some ps
unfolding reached
was_found none e ps h = absurd (err≢ok h)
was_found (some q) e ps h = ap some (cc)

pub was_valued : (o : Option Ty) (e : Refusal) (t : Ty) → valued o e ≡ ok t → o ≡ some t
unfolding valued
was_valued none e t h = absurd (err≢ok h)
was_valued (some q) e t h = ap some (cc)

pub was_free : (sl : Slot) → is_free sl ≡ true → sl ≡ free
unfolding is_free
was_free free h = refl
was_free used h = absurd (false≢true h)
was_free (live v) h = absurd (false≢true h)

-- Tests that say the same.
pub same_bool : (a b : Bool) → (a ≡ true → b ≡ true) → (b ≡ true → a ≡ true) → a ≡ b
same_bool true true f g = refl
same_bool true false f g = sym (f refl)
same_bool false true f g = g refl
same_bool false false f g = refl
