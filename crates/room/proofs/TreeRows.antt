-- What check and run answer on the rows of a script.
use Prim.Native.Nat.{ℕ}
use mathlib.Core.Path.{◌≡◌, ap, ◌∙◌}
use mathlib.Core.Bool.{true}
use mathlib.Core.List.{List}
use lib.IntN.{ℤ}
use lib.ListN.{length}
use mir.Syntax.{w32}
use mir.Val.{to_z}
use borrow.Author.Tests.{eq-eqb}
use Rattle.syntax.specs.Result.{ok, need, ◌>>=◌}
use Rattle.syntax.specs.Limits.{Limits, in_ranges, row_numbers, store_numbers}
use Rattle.syntax.specs.Script.{Term}
use Rattle.syntax.specs.Layout.{rows_of}
use Rattle.syntax.specs.Measures.{size}
use Rattle.syntax.specs.Within.{Within}
use Rattle.syntax.specs.Answers.{rows_tree}
use Rattle.syntax.proofs.RoundTrip.{decodes, rows_length}
use Rattle.statics.specs.Judge.{judge_script}
use Rattle.ownership.specs.Answers.{check_of}
use Rattle.dynamics.specs.Values.{closed}
use Rattle.dynamics.specs.Answers as unchecked
use Rattle.dynamics.specs.Answers.{run_fits, runnable, ran_into, run_into, unchecked_of}
use Rattle.dynamics.specs.Readings.{bits_of}
use Rattle.safety.specs.Safety.{Safe, tidy_store}
use Rattle.room.specs.Running.{answered, checked_first, ended_into, checked_into, run_of}

module _ (l : Limits) (t : Term) (r : in_ranges l ≡ true) (within : Within l t) where
  pub checks_tree : check_of l (rows_of l t) ≡ (judge_script l.variables t >>= λ _. ok (size t))
  unfolding check_of rows_tree need ◌>>=◌
  checks_tree = rw (r, eq-eqb (length (rows_of l t)) (row_numbers l) (rows_length l t within), decodes l t within)

  module _ (readings : List ℤ) (store : List ℕ) (eight : length readings ≡ 8) (long : length store ≡ store_numbers l) where
    runs_tree : runnable l (rows_of l t) readings store ≡ ok t
    unfolding runnable run_fits need ◌>>=◌
    runs_tree =
        rw (r, eq-eqb (length (rows_of l t)) (row_numbers l) (rows_length l t within), eq-eqb (length store) (store_numbers l) long, eq-eqb (length readings) 8 eight)
        (decodes l t within)

    -- A script whose run is safe, run without a check,
    module _ (s : Safe l t (bits_of readings) (λ x. closed)) where
      pub unchecked_safe : unchecked_of l (rows_of l t) readings store ≡ (unchecked.answered (to_z w32 s.answer) s.final.taken, tidy_store l s.final.taken)
      unfolding unchecked_of run_into ran_into
      unchecked_safe =
          ap (run_into l readings store) runs_tree ∙ ap (ran_into l) s.ends
          ∙ ap (λ (x : List ℕ). (unchecked.answered (to_z w32 s.answer) s.final.taken, x)) s.numbers

      -- and with one that accepts it.
      pub run_safe : judge_script l.variables t ≡ ok tt → run_of l (rows_of l t) readings store ≡ (answered (to_z w32 s.answer) s.final.taken, tidy_store l s.final.taken)
      unfolding run_of checked_first checked_into ended_into ◌>>=◌
      run_safe j =
          rw (runs_tree, j)
          (ap (ended_into l) s.ends ∙ ap (λ (x : List ℕ). (answered (to_z w32 s.answer) s.final.taken, x)) s.numbers)
