-- The range of the numbers with which a chain of steps ends where it gives no value: of its refusals, or of its faults.
use Prim.Native.Nat.{ℕ, ◌≤◌}
use native.Mathlib.Omega.{arith}
use mathlib.Core.Path.{◌≡◌}
use mathlib.Core.Bool.{Bool, true, false}
use lib.Dec.{T, leb, leb→le}
use Rattle.syntax.specs.Result.{Result, ok, err, Refusal, need, ◌>>=◌}

-- If the result is no value, its number is from a to b.
pub record Numbered {E A : Type 0} (number : E → ℕ) (a b : ℕ) (m : Result E A) : Type 0 where
  pub number_in : (e : E) → m ≡ err e → (a ≤ number e) × (number e ≤ b)

module _ {E : Type 0} {number : E → ℕ} {a b : ℕ} where
  -- A value has no number.
  pub fine : {A : Type 0} (x : A) → Numbered number a b (ok x)
  fine x = record { number_in = λ e q. let z : ◌≡◌ {A = ℕ} 0 1 = cc in absurd (omega arith) }

  -- The two tests compute where the numbers are written out, so that `search` closes them.
  pub stopped : {A : Type 0} (x : E) → T (leb a (number x)) → T (leb (number x) b) → Numbered {A = A} number a b (err x)
  stopped x h k = record {
    number_in = λ e q.
        let z : number x ≡ number e = cc in
        (omega (arith, leb→le a (number x) h), omega (arith, leb→le (number x) b k));
  }

  -- What is in a range is in a wider one.
  pub wider : {A : Type 0} {m : Result E A} {c d : ℕ} → Numbered number c d m → T (leb a c) → T (leb d b) → Numbered number a b m
  wider {c = c} {d = d} o h k = record { number_in = λ e q. let z = o.number_in e q in (omega (arith, leb→le a c h), omega (arith, leb→le d b k)) }

  -- A chain ends where its first step does or where the rest does.
  pub onward : {A B : Type 0} {m : Result E A} {f : A → Result E B} → Numbered number a b m → ((x : A) → Numbered number a b (f x)) → Numbered number a b (m >>= f)
  unfolding ◌>>=◌
  onward {m = ok x} h k = k x
  onward {m = err x} h k = record { number_in = λ e q. h.number_in e cc }

  -- A test has one number.
  pub tested : (t : Bool) (x : E) → T (leb a (number x)) → T (leb (number x) b) → Numbered number a b (need t x)
  unfolding need
  tested true x h k = fine tt
  tested false x h k = stopped x h k

-- With these `search` goes through a definition step by step and looks at each number.
pub ruleset steps = (onward, tested, fine, stopped)

-- If the result is a refusal, its number is from a to b.
abbrev pub Only : {A : Type 0} → ℕ → ℕ → Result Refusal A → Type 0
Only a b m = Numbered (λ e. e.0) a b m
