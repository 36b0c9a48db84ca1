-- Dropping with no bound: where cells are taken in order, `drop_value` is one step of dropping and then itself.
use Prim.Native.Nat.{ℕ, zero, suc, ◌≤◌, ◌<◌}
use native.Mathlib.Omega.{arith}
use native.Mathlib.Decide.{dec_lt}
use mathlib.Core.Path.{◌≡◌, refl, sym, ap, ◌∙◌}
use mathlib.Core.Bool.{false, true≢false}
use Rattle.syntax.specs.Result.{ok}
use Rattle.dynamics.specs.Values.{Location, cell, Value, empty, num, owner, reference, Row, closed, given_back, open_with}
use Rattle.dynamics.specs.Store.{put, is_open, State, with_store, fault}
use Rattle.dynamics.specs.Drop.{Dropping, give_back, drop_step, is_given_back, cells_left, InOrder, drop_along, drop_value}
use Rattle.dynamics.proofs.StoreLaws.{put_other}
use Rattle.dynamics.proofs.CellCounts.{count_more, count_bound}

-- What `drop_along n` does after its first step.
onwards : ℕ → ℕ → Dropping
onwards zero i = λ s v. ok s
onwards (suc n) i = drop_along n i

step_first : (n i : ℕ) (s : State) (v : Value) → drop_along n i s v ≡ drop_step i (onwards n i) s v
unfolding drop_along onwards
step_first zero i s v = refl
step_first (suc n) i s v = refl

-- The state with the cell given back.
abbrev pub without : State → ℕ → State
without s c = with_store s (put s.store (cell c) given_back)

-- A step asks what comes after it only where it gives a cell back.
give_on : (i : ℕ) (s : State) (c : ℕ) (f g : Dropping) (r : Row) → ((v : Value) → r ≡ open_with v → f (without s c) v ≡ g (without s c) v)
    → give_back i s c r f ≡ give_back i s c r g
unfolding give_back
give_on i s c f g closed h = refl
give_on i s c f g given_back h = refl
give_on i s c f g (open_with v) h = h v refl

step_on : (i : ℕ) (s : State) (f g : Dropping) (v : Value)
    → ((c : ℕ) (u : Value) → s.store (cell c) ≡ open_with u → f (without s c) u ≡ g (without s c) u) → drop_step i f s v ≡ drop_step i g s v
unfolding drop_step
step_on i s f g empty h = refl
step_on i s f g (num n) h = refl
step_on i s f g (owner c) h = give_on i s c f g (s.store (cell c)) (h c)
step_on i s f g (reference l) h = refl

module _ (s : State) (h : InOrder s) where
  -- Only a cell that is taken is open.
  pub open_taken : (c : ℕ) (v : Value) → s.store (cell c) ≡ open_with v → c < s.taken
  open_taken c v e = go (dec_lt c s.taken)
    where
      go : Dec (c < s.taken) → c < s.taken
      go (yes l) = l
      go (no l) = let k = h c (omega arith) in let z : ◌≡◌ {A = ℕ} 0 1 = cc in absurd (omega arith)

  -- Each owner dropped leaves one cell fewer.
  pub one_fewer : (c : ℕ) (v : Value) → s.store (cell c) ≡ open_with v → cells_left s ≡ suc (cells_left (without s c))
  unfolding cells_left is_given_back
  one_fewer c v e =
      let l = open_taken c v e in
      let m = count_more s.store c s.taken l (rw e) in
      let b = count_bound s.taken (put s.store (cell c) given_back) in
      omega arith

  pub without_in_order : (c : ℕ) (v : Value) → s.store (cell c) ≡ open_with v → InOrder (without s c)
  without_in_order c v e d l =
      let k = open_taken c v e in
      put_other s.store (cell c) given_back (cell d) (λ q. let z : d ≡ c = cc in omega arith) ∙ h d l

  -- The law: no bound in it.
  pub drop_is : (i : ℕ) (v : Value) → drop_value i s v ≡ drop_step i (drop_value i) s v
  unfolding drop_value onwards
  drop_is i v =
      step_first (cells_left s) i s v
      ∙ step_on i s (onwards (cells_left s) i) (drop_value i) v (λ c u e. ap (λ (n : ℕ). onwards n i (without s c) u) (one_fewer c u e))

  pub drop_owner : (i c : ℕ) (v : Value) → s.store (cell c) ≡ open_with v → drop_value i s (owner c) ≡ drop_value i (without s c) v
  unfolding drop_step give_back
  drop_owner i c v e = drop_is i (owner c) ∙ rw e

-- A greater bound gives the same.
pub more_cells : (n i : ℕ) (s : State) → InOrder s → cells_left s ≤ n → (v : Value) → drop_along n i s v ≡ drop_value i s v
unfolding onwards
more_cells zero i s h l v =
    step_first zero i s v
    ∙ step_on i s (onwards zero i) (drop_value i) v (λ c u e. absurd (let z = one_fewer s h c u e in omega arith))
    ∙ sym (drop_is s h i v)
more_cells (suc n) i s h l v =
    step_first (suc n) i s v
    ∙ step_on i s (onwards (suc n) i) (drop_value i) v (λ c u e. more_cells n i (without s c) (without_in_order s h c u e) (let z = one_fewer s h c u e in omega arith) u)
    ∙ sym (drop_is s h i v)

-- And no other function does what the rule says.
module _ (i : ℕ) (D : Dropping) (rule : (s : State) (v : Value) → InOrder s → D s v ≡ drop_step i D s v) where
  only_along : (n : ℕ) (s : State) → InOrder s → cells_left s ≤ n → (v : Value) → D s v ≡ drop_value i s v
  only_along zero s h l v =
      rule s v h ∙ step_on i s D (drop_value i) v (λ c u e. absurd (let z = one_fewer s h c u e in omega arith)) ∙ sym (drop_is s h i v)
  only_along (suc n) s h l v =
      rule s v h
      ∙ step_on i s D (drop_value i) v (λ c u e. only_along n (without s c) (without_in_order s h c u e) (let z = one_fewer s h c u e in omega arith) u)
      ∙ sym (drop_is s h i v)

  pub drop_only : (s : State) (v : Value) → InOrder s → D s v ≡ drop_value i s v
  drop_only s v h = only_along (cells_left s) s h (omega arith) v

-- What is no owner is dropped in any state.
pub drop_empty : (i : ℕ) (s : State) → drop_value i s empty ≡ ok s
unfolding drop_value drop_step
drop_empty i s = step_first (cells_left s) i s empty

pub drop_num : (i : ℕ) (s : State) (n : ℕ) → drop_value i s (num n) ≡ ok s
unfolding drop_value drop_step
drop_num i s n = step_first (cells_left s) i s (num n)

pub drop_reference : (i : ℕ) (s : State) (l : Location) → drop_value i s (reference l) ≡ ok s
unfolding drop_value drop_step
drop_reference i s l = step_first (cells_left s) i s (reference l)

not_open : (i : ℕ) (s : State) (c : ℕ) (r : Row) (f : Dropping) → is_open r ≡ false → give_back i s c r f ≡ fault 63 i s
unfolding give_back is_open
not_open i s c closed f h = refl
not_open i s c given_back f h = refl
not_open i s c (open_with v) f h = absurd (true≢false h)

-- An owner whose cell is not open is 63 in any state.
pub drop_not_open : (i : ℕ) (s : State) (c : ℕ) → is_open (s.store (cell c)) ≡ false → drop_value i s (owner c) ≡ fault 63 i s
unfolding drop_value drop_step
drop_not_open i s c h = step_first (cells_left s) i s (owner c) ∙ not_open i s c (s.store (cell c)) (onwards (cells_left s) i) h
