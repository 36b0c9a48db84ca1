-- The states that judging meets: environments, with the level there and the value in flight, if any. It follows places in no others.
use Rattle.std.specs.Prelude.{ℕ, suc, ◌≡◌, drop}
use Rattle.std.proofs.Math.Option.{Option, none}
use Rattle.syntax.specs.Result.{ok, ◌>>=◌}
use Rattle.syntax.specs.Script.{Place, Term, box, declare, assign, block, choice, Terms, last, more}
use Rattle.syntax.specs.Measures.{size, sizes}
use Rattle.statics.specs.Environment.{free, used, Environment, Ty, update}
use Rattle.statics.specs.Uses.{Unfinished}
use Rattle.statics.specs.Choice.{carried}
use Rattle.statics.specs.Rules.{Out, Judged, judge_block_end}
use Rattle.statics.specs.Judge.{judge, judges}

module _ (nv : ℕ) where
  -- A block of a choice.
  abbrev pub judge_branch : Terms → ℕ → ℕ → Unfinished → Environment → Judged Out
  judge_branch ts i level ns Γ = judges nv ts (suc level) ns Γ >>= λ o. judge_block_end nv level o.0 i o.1

  mutual
    -- Judging the term at the level from the first environment meets the second: where it begins, where it ends, and inside.
    pub data Meets : Term → ℕ → Unfinished → Environment → Environment → ℕ → Option Ty → Type 0 where
      begins : {t : Term} {level : ℕ} {ns : Unfinished} {Γ : Environment} → Meets t level ns Γ Γ level none
      ends : {t : Term} {level : ℕ} {ns : Unfinished} {Γ Δ : Environment} {o : Option Ty} → judge nv t level ns Γ ≡ ok (Δ, o) → Meets t level ns Γ Δ level o
      in_box : {i : ℕ} {t : Term} {level : ℕ} {ns : Unfinished} {Γ Δ : Environment} {m : ℕ} {o : Option Ty} → Meets t level ns Γ Δ m o → Meets (box i t) level ns Γ Δ m o
      in_let : {i x : ℕ} {t : Term} {level : ℕ} {ns : Unfinished} {Γ Δ : Environment} {m : ℕ} {o : Option Ty} → Γ x ≡ free → Meets t level ns (update Γ x used) Δ m o
          → Meets (declare i x t) level ns Γ Δ m o
      in_assign : {i : ℕ} {p : Place} {t : Term} {level : ℕ} {ns : Unfinished} {Γ Δ : Environment} {m : ℕ} {o : Option Ty} → Meets t level ns Γ Δ m o → Meets (assign i p t) level ns Γ Δ m o
      in_block : {i : ℕ} {ts : Terms} {level : ℕ} {ns : Unfinished} {Γ Δ : Environment} {m : ℕ} {o : Option Ty} → MeetsAll ts (suc level) ns Γ Δ m o → Meets (block i ts) level ns Γ Δ m o
      in_first_block : {i : ℕ} {p : Place} {j : ℕ} {us : Terms} {k : ℕ} {vs : Terms} {level : ℕ} {ns : Unfinished} {Γ Δ : Environment} {m : ℕ} {o : Option Ty}
          → MeetsAll us (suc level) ns Γ Δ m o → Meets (choice i p j us k vs) level ns Γ Δ m o
      -- Where the first block has ended, and inside the second.
      after_first_block : {i : ℕ} {p : Place} {j : ℕ} {us : Terms} {k : ℕ} {vs : Terms} {level : ℕ} {ns : Unfinished} {Γ Δ : Environment} {o : Option Ty}
          → judge_branch us j level ns Γ ≡ ok (Δ, o) → Meets (choice i p j us k vs) level ns Γ Δ level o
      in_second_block : {i : ℕ} {p : Place} {j : ℕ} {us : Terms} {k : ℕ} {vs : Terms} {level : ℕ} {ns : Unfinished} {Γ Δ : Environment} {m : ℕ} {o : Option Ty} (a : Out)
          → judge_branch us j level ns Γ ≡ ok a → MeetsAll vs (suc level) (drop (suc (sizes us)) ns) (carried Γ a.0) Δ m o → Meets (choice i p j us k vs) level ns Γ Δ m o

    pub data MeetsAll : Terms → ℕ → Unfinished → Environment → Environment → ℕ → Option Ty → Type 0 where
      in_last : {t : Term} {level : ℕ} {ns : Unfinished} {Γ Δ : Environment} {m : ℕ} {o : Option Ty} → Meets t level ns Γ Δ m o → MeetsAll (last t) level ns Γ Δ m o
      in_first : {t : Term} {ts : Terms} {level : ℕ} {ns : Unfinished} {Γ Δ : Environment} {m : ℕ} {o : Option Ty} → Meets t level ns Γ Δ m o → MeetsAll (more t ts) level ns Γ Δ m o
      in_rest : {t : Term} {ts : Terms} {level : ℕ} {ns : Unfinished} {Γ Δ : Environment} {m : ℕ} {o : Option Ty} (a : Out) → judge nv t level ns Γ ≡ ok a
          → MeetsAll ts level (drop (size t) ns) a.0 Δ m o → MeetsAll (more t ts) level ns Γ Δ m o
