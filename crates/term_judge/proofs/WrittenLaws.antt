-- The end of an assign (LANGUAGE 3.25): what the code asks once the new value is in place. Assumes nothing.
use Prim.Native.Nat.{ℕ}
use mathlib.Core.Path.{◌≡◌, sym, ap, ◌∙◌}
use mathlib.Core.Bool.{Bool, not}
use mathlib.Core.Option.{Option, none}
use mathlib.Core.List.{List}
use Rattle.syntax.specs.Result.{ok, err, Refusal, need, ◌>>=◌}
use Rattle.syntax.specs.Script.{Place}
use Rattle.syntax.specs.RowTrees.{place_at}
use Rattle.variables.specs.declared.table.Place as table
use Rattle.statics.specs.Environment.{Environment, Ty}
use Rattle.statics.specs.Uses.{Unfinished}
use Rattle.statics.specs.Bars.{write_barred}
use Rattle.statics.specs.Rules.{Judged, Out, judge_write, judge_assign}
use Rattle.variables.specs.Table.{as_place}
use Rattle.uses.specs.RowPlaces.{row_place}
use Rattle.statics.proofs.Answers.{err≢ok, same_answer}

-- ---- an assign has no value

abbrev NoValue : Judged Out → Type 0
NoValue r = (out : Out) → r ≡ ok out → out.1 ≡ none

after_step : {A : Type 0} (r : Judged A) (f : A → Judged Out) → ((a : A) → NoValue (f a)) → NoValue (r >>= f)
unfolding ◌>>=◌
after_step (ok a) f h out e = h a out e
after_step (err x) f h out e = absurd (err≢ok e)

write_valueless : (nv : ℕ) (Γ : Environment) (i : ℕ) (p : Place) (o : Option Ty) → NoValue (judge_write nv Γ i p o)
unfolding judge_write
write_valueless nv Γ i p o =
    after_step _ _ (λ t. after_step _ _ (λ l. after_step _ _ (λ _. after_step _ _ (λ _. after_step _ _ (λ _ out e. ap (λ (w : Out). w.1) (sym (same_answer e)))))))

-- ---- what is written, and 35 after it

module _ (nv : ℕ) (Γ : Environment) (i : ℕ) (p : Place) (o : Option Ty) (ns : Unfinished) where
  write_refused : (x : Refusal) → err x ≡ judge_write nv Γ i p o → err x ≡ judge_assign nv ns Γ i p o
  unfolding judge_assign ◌>>=◌
  write_refused x k = sym (rw (← k))

  write_fine : (out : Out) → ok out ≡ judge_write nv Γ i p o → (barred : Bool) → barred ≡ write_barred nv ns out.0 p.root → (E : Judged Out) → E ≡ (need (not barred) (35, i) >>= λ _. ok (out.0, none)) → E ≡ judge_assign nv ns Γ i p o
  unfolding judge_assign ◌>>=◌
  write_fine out k barred b E t =
      let q : out.1 ≡ none = write_valueless nv Γ i p o _ (sym k) in
      t ∙ sym (rw (← k, q, ← b))

-- The same of the place in fields 1 and 2 of row i, as the code reads it.
module _ (nv : ℕ) (Γ : Environment) (rows : List ℕ) (i : ℕ) (o : Option Ty) (q : table.Place) (eq : q ≡ row_place rows i 1) (ns : Unfinished) where
  pub assign_refused : (x : Refusal) → err x ≡ judge_write nv Γ i (as_place q) o → err x ≡ judge_assign nv ns Γ i (place_at rows i 1) o
  assign_refused x k = write_refused nv Γ i (place_at rows i 1) o ns x (k ∙ ap (λ (p : table.Place). judge_write nv Γ i (as_place p) o) eq)

  pub assign_fine : (out : Out) → ok out ≡ judge_write nv Γ i (as_place q) o → (barred : Bool) (x : ℕ) → x ≡ q.root → barred ≡ write_barred nv ns out.0 x → (E : Judged Out) → E ≡ (need (not barred) (35, i) >>= λ _. ok (out.0, none)) → E ≡ judge_assign nv ns Γ i (place_at rows i 1) o
  assign_fine out k barred x ex b E t =
      write_fine nv Γ i (place_at rows i 1) o ns out (k ∙ ap (λ (p : table.Place). judge_write nv Γ i (as_place p) o) eq) barred (b ∙ ap (λ (y : ℕ). write_barred nv ns out.0 y) (ex ∙ ap (λ (p : table.Place). p.root) eq)) E t
