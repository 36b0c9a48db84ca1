-- What is to be shown of a term: it runs to its end, and the invariant holds after it.
use Prim.Native.Nat.{ℕ, ◌<◌}
use native.Mathlib.Omega.{arith}
use mathlib.Core.Path.{◌≡◌, refl, ◌∙◌}
use mathlib.Core.Option.{Option, none}
use mathlib.Core.List.{◌++◌}
use Rattle.syntax.specs.Result.{ok, ◌>>=◌}
use Rattle.statics.specs.Environment.{Variable, used, live, Environment, Ty}
use Rattle.statics.specs.Uses.{Unfinished}
use Rattle.dynamics.specs.Values.{Value, empty}
use Rattle.dynamics.specs.Store.{State, Ran}
use Rattle.dynamics.specs.Run.{Outcome}
use Rattle.syntax.proofs.Answers.{after}
use Rattle.statics.proofs.Finishing.{named_before}
use Rattle.safety.proofs.Invariant.{Invariant, later}

-- r is the run of a term that is judged from Γ on and leads to Γ', with a value of type o.
pub record Progress (nv : ℕ) (ns : Unfinished) (Γ Γ' : Environment) (o : Option Ty) (lv : ℕ) (r : Ran Outcome) : Type 0 where
  pub s : State
  pub v : Value
  pub ran : r ≡ ok (s, v)
  pub inv : Invariant nv ns Γ' o lv s v
  -- What lives in a block further out was in scope before; a number that is taken and not in scope stays so; a variable in scope stays
  -- so, with the chain that its let fixed (LANGUAGE 3.8).
  pub keep : (x : ℕ) (q : Variable) → Γ' x ≡ live q → q.level < lv → (k : Variable) × (Γ x ≡ live k) × (k.level ≡ q.level)
  pub stay : (x : ℕ) → Γ x ≡ used → Γ' x ≡ used
  pub lives : (x : ℕ) (k : Variable) → Γ x ≡ live k → (q : Variable) × (Γ' x ≡ live q) × (q.chain ≡ k.chain) × (q.level ≡ k.level)

module _ {nv : ℕ} {ns : Unfinished} {Γ : Environment} {lv : ℕ} {s : State} (I : Invariant nv ns Γ none lv s empty) where
  -- A term that gives a value and changes nothing else.
  pub unchanged : (o : Option Ty) (v : Value) (r : Ran Outcome) → r ≡ ok (s, v) → Invariant nv ns Γ o lv s v → Progress nv ns Γ Γ o lv r
  unchanged o v r e J = record { s = s; v = v; ran = e; inv = J; keep = λ x q h l. (q, h, refl); stay = λ x h. h; lives = λ x k h. (k, h, refl, refl) }

-- One term after another.
pub and_then : {nv : ℕ} {ns : Unfinished} {Γ Γ₁ Γ₂ : Environment} {o₁ o₂ : Option Ty} {lv : ℕ} (r : Ran Outcome) (f : Outcome → Ran Outcome) → Progress nv ns Γ Γ₁ o₁ lv r
    → ((s : State) (v : Value) → Invariant nv ns Γ₁ o₁ lv s v → Progress nv ns Γ₁ Γ₂ o₂ lv (f (s, v))) → Progress nv ns Γ Γ₂ o₂ lv (r >>= f)
and_then r f R k =
    let Q = k R.s R.v R.inv in
    record {
      s = Q.s;
      v = Q.v;
      ran = after r f (R.s, R.v) (ok (Q.s, Q.v)) R.ran Q.ran;
      inv = Q.inv;
      keep = λ x q e l. let a = Q.keep x q e l in let b = R.keep x a.0 a.1 (omega (arith, a.2)) in (b.0, b.1, b.2 ∙ a.2);
      stay = λ x e. Q.stay x (R.stay x e);
      lives = λ x k e. let a = R.lives x k e in let b = Q.lives x a.0 a.1 in (b.0, b.1, b.2 ∙ a.2, b.3 ∙ a.3);
    }

-- The term has finished: what it names need not be known any more.
pub finished : {nv : ℕ} {ns rest : Unfinished} {Γ Γ' : Environment} {o : Option Ty} {lv : ℕ} {r : Ran Outcome} (ms : Unfinished) → ns ≡ ms ++ rest
    → Progress nv ns Γ Γ' o lv r → Progress nv rest Γ Γ' o lv r
finished {ns = ns} {rest = rest} ms e R = record { s = R.s; v = R.v; ran = R.ran; inv = later (named_before ms ns rest e) R.inv; keep = R.keep; stay = R.stay; lives = R.lives }
