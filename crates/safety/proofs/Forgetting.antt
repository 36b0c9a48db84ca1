-- A block drops the value of a term.
use Prim.Native.Nat.{ℕ}
use mathlib.Core.Path.{◌≡◌, refl, sym, ap, ◌∙◌}
use mathlib.Core.Logic.{◌≢◌, ◌⊎◌, inl, inr}
use mathlib.Core.Option.{Option, none, some}
use Rattle.syntax.specs.Result.{ok}
use Rattle.statics.specs.Environment.{used, Environment, Ty}
use Rattle.statics.specs.Uses.{Unfinished}
use Rattle.statics.proofs.Slots.{used≢live}
use Rattle.dynamics.specs.Values.{Value, empty, closed}
use Rattle.dynamics.specs.Store.{State, with_store}
use Rattle.dynamics.specs.Drop.{drop_value}
use Rattle.dynamics.proofs.DropLaws.{drop_empty}
use Rattle.safety.proofs.Memory.{Name, in_flight, in_drop, var, no_row, has, name_dec, either_dec, var≢flight, drop≢flight}
use Rattle.safety.proofs.NameMaps.{upd, upd_same, upd_other}
use Rattle.safety.proofs.Ghost.{vacant}
use Rattle.safety.proofs.Ghost as Gh
use Rattle.safety.proofs.Typing.{boxes, Typed}
use Rattle.safety.proofs.Frames.{sweep, left}
use Rattle.safety.proofs.Known.{Known, known_off}
use Rattle.safety.proofs.Covering.{vacant≢live, vac_covers, covers_less}
use Rattle.safety.proofs.Invariant.{nobody, Invariant, drop_no_row}
use Rattle.safety.proofs.InFlight.{Full, content, flying, flying_whole}
use Rattle.safety.proofs.Emptying.{Emptied, drop_flight_value}

pub forget : {nv : ℕ} {ns : Unfinished} {Γ : Environment} {lv : ℕ} {s : State} {v : Value} (o : Option Ty) (i : ℕ) → Invariant nv ns Γ o lv s v
    → (s' : State) × (drop_value i s v ≡ ok s') × (Invariant nv ns Γ none lv s' empty)
forget {nv} {ns} {Γ} {lv} {s} {v} none i I = (
  s,
  ap (λ (u : Value). drop_value i s u) (I.nothing refl) ∙ drop_empty i s,
  record { Θ = I.Θ; H = I.H; ρ = I.ρ; rank = I.rank; mem = I.mem; typed = I.typed; vars = I.vars; flight = I.flight; idle = I.idle; nothing = λ e. refl; deep = I.deep; scope = I.scope },
)
forget {nv} {ns} {Γ} {lv} {s} {v} (some t) i I = (
  with_store s E.A,
  E.ran,
  record {
    Θ = Θ';
    H = E.H';
    ρ = E.ρ';
    rank = I.rank;
    mem = E.mem;
    typed = T₂;
    vars = λ x. covers_less (Θ' (var x)) (I.Θ (var x)) (Γ x) known (same (var x) var≢flight) (I.vars x);
    flight = vac_covers (Θ' in_flight) used (upd_same I.Θ in_flight vacant) (λ v e. used≢live e);
    idle = same in_drop drop≢flight ∙ I.idle;
    nothing = λ e. refl;
    deep = I.deep;
    scope = I.scope;
  },
)
  where
    N : Gh.Variable
    N = (flying I).0

    C : (u : Value) × (I.H in_flight ≡ has (boxes N) u) × (Full u)
    C = content I in_flight N (flying I).1 (flying_whole I)

    E : Emptied I.H closed s.taken I.ρ i s v in_flight
    E = drop_flight_value i s I.H I.ρ v C.0 (boxes N) I.mem C.1 (drop_no_row I)

    Θ' : Name → Gh.Slot
    Θ' = upd I.Θ in_flight vacant

    same : (z : Name) → (z ≡ in_flight → ⊥) → Θ' z ≡ I.Θ z
    same z n = upd_other I.Θ in_flight vacant z n

    known : {z : Name} → Known ns Θ' z → Known ns I.Θ z
    known = known_off (λ z. z ≡ in_flight) (λ z. name_dec z in_flight) same (λ z Q p h K. absurd (vacant≢live (sym (upd_same I.Θ in_flight vacant) ∙ ap Θ' (sym h) ∙ K.is)))

    G₁ : Name → Type 0
    G₁ z = ⊥ ⊎ (z ≡ in_flight)

    T₁ : Typed nv G₁ Θ' I.H I.ρ I.rank
    T₁ = left I.typed (λ z. z ≡ in_flight) (λ z. name_dec z in_flight) Θ' same (λ z e q h. vacant≢live (sym (upd_same I.Θ in_flight vacant) ∙ ap Θ' (sym e) ∙ h)) (λ x q p K h e. var≢flight e)

    dead : (z : Name) → (z ≡ in_flight) ⊎ (z ≡ in_drop) → (q : Gh.Variable) → Θ' z ≢ Gh.live q
    dead z (inl e) q h = vacant≢live (sym (upd_same I.Θ in_flight vacant) ∙ ap Θ' (sym e) ∙ h)
    dead z (inr e) q h = vacant≢live (sym (same in_drop drop≢flight ∙ I.idle) ∙ ap Θ' (sym e) ∙ h)

    out : (z : Name) → (z ≡ in_flight) ⊎ (z ≡ in_drop) → (nobody z → ⊥) → E.H' z ≡ no_row
    out z (inl e) g = ap E.H' e ∙ E.out
    out z (inr e) g = ap E.H' e ∙ E.same_h in_drop drop≢flight ∙ drop_no_row I

    T₂ : Typed nv nobody Θ' E.H' E.ρ' I.rank
    T₂ = sweep T₁ (λ z. (z ≡ in_flight) ⊎ (z ≡ in_drop)) (either_dec in_flight in_drop) Θ' (λ z n. refl) dead dead nobody E.H' E.ρ'
        (λ z n. E.same_h z (λ e. n (inl e))) (λ z j n. E.sameρ z j (λ e. n (inl e)) (λ e. n (inr e)))
        (λ z n g k. elim k [ inl a ↦ a | inr b ↦ n (inl b) ]) out
