-- Number, reading, below, sum; and the number at the place of a choice.
use Prim.Native.Nat.{ℕ}
use mathlib.Core.Path.{◌≡◌, refl}
use mathlib.Core.Bool.{true}
use mathlib.Core.Option.{none, some}
use Rattle.syntax.specs.Result.{ok, ◌>>=◌}
use Rattle.syntax.specs.Script.{Place}
use Rattle.statics.specs.Environment.{Environment}
use Rattle.statics.specs.Uses.{Unfinished, named_later}
use Rattle.statics.specs.Rules.{number_ty, judge_readable, judge_number}
use Rattle.dynamics.specs.Values.{Location, empty, num, open_with}
use Rattle.dynamics.specs.Store.{State, Ran}
use Rattle.dynamics.specs.Locate.{locate, filled, number_in}
use Rattle.dynamics.specs.Run.{Outcome, run_copy, run_number, run_pair}
use Rattle.syntax.proofs.Answers.{then, needed}
use Rattle.safety.proofs.Inversion.{number_nil, readable_ok}
use Rattle.safety.proofs.Invariant.{Invariant}
use Rattle.safety.proofs.Finding.{number_there}
use Rattle.safety.proofs.Following.{judged_found, is_whole}
use Rattle.safety.proofs.Progress.{Progress, unchanged}
use Rattle.safety.proofs.NewValue.{new_number}

module _ {nv : ℕ} {ns : Unfinished} {Γ : Environment} {lv : ℕ} {s : State} (I : Invariant nv ns Γ none lv s empty) where
  pub case_number : (n : ℕ) (r : Ran Outcome) → r ≡ ok (s, num n) → Progress nv ns Γ Γ (some number_ty) lv r
  case_number n r e = unchanged I (some number_ty) (num n) r e (new_number I n)

  pub run_num : (i : ℕ) (p : Place) (loc : Location) (n : ℕ) → locate s i p ≡ ok loc → s.store loc ≡ open_with (num n)
      → (run_number s i p ≡ ok n) × (run_copy s i p ≡ ok (s, num n))
  unfolding run_number run_copy filled number_in ◌>>=◌
  run_num i p loc n e h = (rw (e, h) refl, rw (e, h) refl)

  pub one_number : (js : Unfinished) (i : ℕ) (p : Place) (u : Unit {0}) → named_later ns p.root ≡ true → judge_number nv js Γ i p ≡ ok u
      → (n : ℕ) × (run_number s i p ≡ ok n)
  unfolding judge_number
  one_number js i p u nm h =
      let a = then (judge_readable nv js Γ i p) _ u h in
      let b = readable_ok nv js Γ i p a.0 a.1 in
      let F = judged_found I i i p a.0 nm b.0 in
      let N = number_there I p a.0 i F (is_whole nv Γ p.root a.0.root b.1) (number_nil _ (needed _ _ _ a.2)) in
      (N.0, (run_num i p F.loc N.0 F.run (N.2 F.loc F.run)).0)

  run_both : (f : ℕ → ℕ → ℕ) (i : ℕ) (p q : Place) (a b : ℕ) → run_number s i p ≡ ok a → run_number s i q ≡ ok b → run_pair f s i p q ≡ ok (s, num (f a b))
  unfolding run_pair ◌>>=◌
  run_both f i p q a b d e = rw (d, e) refl

  -- The numbers at two places, whatever f makes of them.
  pub case_pair : (js : Unfinished) (f : ℕ → ℕ → ℕ) (i : ℕ) (p q : Place) (u u' : Unit {0}) → named_later ns p.root ≡ true → named_later ns q.root ≡ true
      → judge_number nv js Γ i p ≡ ok u → judge_number nv js Γ i q ≡ ok u'
      → Progress nv ns Γ Γ (some number_ty) lv (run_pair f s i p q)
  case_pair js f i p q u u' m n d e =
      let a = one_number js i p u m d in
      let b = one_number js i q u' n e in
      case_number (f a.0 b.0) (run_pair f s i p q) (run_both f i p q a.0 b.0 a.1 b.1)
