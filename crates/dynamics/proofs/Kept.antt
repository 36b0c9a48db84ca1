-- What dropping and closing keep, whether they end or meet a fault.
use Prim.Native.Nat.{ℕ, zero, suc}
use native.Mathlib.Omega.{arith}
use mathlib.Core.Path.{◌≡◌, refl, subst}
use mathlib.Core.List.{List, [], ◌∷◌}
use Rattle.syntax.specs.Result.{ok, err, ◌>>=◌}
use Rattle.dynamics.specs.Values.{variable, cell, Value, empty, num, owner, reference, Row, closed, given_back, open_with}
use Rattle.dynamics.specs.Store.{put, value_in, State, with_store, Fault, Ran}
use Rattle.dynamics.specs.Drop.{Dropping, give_back, drop_step, cells_left, drop_along, drop_value, close_all}
use Rattle.dynamics.proofs.DropLaws.{without}

-- A step ends with an answer that has Q, or at a fault whose state has P.
pub data Keeps {A : Type 0} (P : State → Type 0) (Q : A → Type 0) : Ran A → Type 0 where
  ends : (a : A) → Q a → Keeps P Q (ok a)
  faults : (f : Fault) → P f.state → Keeps P Q (err f)

pub keeps_then : {A B : Type 0} {P : State → Type 0} {Q : A → Type 0} {R : B → Type 0} {m : Ran A} (f : A → Ran B) → Keeps P Q m
    → ((a : A) → Q a → Keeps P R (f a)) → Keeps P R (m >>= f)
unfolding ◌>>=◌
keeps_then f (ends a h) k = k a h
keeps_then f (faults e h) k = faults e h

pub keeps_ok : {A : Type 0} {P : State → Type 0} {Q : A → Type 0} {r : Ran A} → Keeps P Q r → (a : A) → r ≡ ok a → Q a
keeps_ok {Q} (ends b h) a e = subst Q (let z : b ≡ a = cc in z) h
keeps_ok (faults f h) a e = let z : ◌≡◌ {A = ℕ} 0 1 = cc in absurd (omega arith)

-- What stays true of a state where a cell that was open is given back, and where a variable's row is closed.
pub record Lasting (P : State → Type 0) : Type 0 where
  pub back : (s : State) (c : ℕ) (v : Value) → s.store (cell c) ≡ open_with v → P s → P (without s c)
  pub close : (s : State) (x : ℕ) → P s → P (with_store s (put s.store (variable x) closed))

module _ {P : State → Type 0} (S : Lasting P) (i : ℕ) where
  abbrev Onwards : Dropping → Type 0
  Onwards f = (s : State) (v : Value) → P s → Keeps P P (f s v)

  give_keeps : (f : Dropping) → Onwards f → (s : State) (c : ℕ) (r : Row) → s.store (cell c) ≡ r → P s → Keeps P P (give_back i s c r f)
  unfolding give_back
  give_keeps f k s c closed e h = faults _ h
  give_keeps f k s c given_back e h = faults _ h
  give_keeps f k s c (open_with v) e h = k (without s c) v (S.back s c v e h)

  step_keeps : (f : Dropping) → Onwards f → Onwards (drop_step i f)
  unfolding drop_step
  step_keeps f k s empty h = ends s h
  step_keeps f k s (num n) h = ends s h
  step_keeps f k s (owner c) h = give_keeps f k s c (s.store (cell c)) refl h
  step_keeps f k s (reference l) h = ends s h

  along_keeps : (n : ℕ) → Onwards (drop_along n i)
  unfolding drop_along
  along_keeps zero = step_keeps (λ s v. ok s) (λ s v h. ends s h)
  along_keeps (suc n) = step_keeps (drop_along n i) (along_keeps n)

  pub drop_keeps : (s : State) (v : Value) → P s → Keeps P P (drop_value i s v)
  unfolding drop_value
  drop_keeps s v h = along_keeps (cells_left s) s v h

  pub close_keeps : (xs : List ℕ) (s : State) → P s → Keeps P P (close_all i s xs)
  unfolding close_all
  close_keeps [] s h = ends s h
  close_keeps (x ∷ xs) s h = keeps_then _ (drop_keeps _ (value_in (s.store (variable x))) (S.close s x h)) (λ s' k. close_keeps xs s' k)
