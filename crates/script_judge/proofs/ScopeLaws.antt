-- What was in scope where a block begins is, at its end, what is in scope and lives around it.
use Prim.Native.Nat.{ℕ, suc, ◌<◌, ◌≤◌}
use native.Mathlib.Omega.{arith}
use native.Mathlib.Decide.{dec_lt}
use mathlib.Core.Path.{◌≡◌, sym, ap, ◌∙◌}
use mathlib.Core.Bool.{false}
use mathlib.Core.Option.{Option}
use mathlib.Core.List.{List}
use lib.Dec.{leb}
use borrow.Author.Tests.{le-leb, lt-leb}
use Rattle.syntax.specs.Result.{pick}
use Rattle.variables.specs.declared.table.Row.{Row}
use Rattle.variables.specs.declared.roots.Roots.{Roots}
use Rattle.statics.specs.Environment.{Variable, live, Ty}
use Rattle.statics.specs.Neat.{Neat}
use Rattle.variables.specs.Masks.{has}
use Rattle.variables.specs.Table.{entry_word, roots_at, variable_at, environment_of, Around, TableFor}
use Rattle.variables.proofs.EntryLaws.{status_live, live_status}
use Rattle.statics.proofs.NeatSteps.{Fine}

-- The block begins with the table env₀; its terms leave env.
module _ (nv level : ℕ) (env₀ env : List Row) (T : TableFor env₀ nv) (N : Neat nv (environment_of env₀) level) (o : Option Ty) (F : Fine nv (environment_of env₀) (environment_of env) o (suc level)) where
  module _ (y : ℕ) where
    -- Its level is that of its entry.
    entry_level : (v : Variable) → environment_of env y ≡ live v → entry_word env y 5 ≡ v.level
    entry_level v e = ap (λ (w : Variable). w.level) (sym (live_status env y v e).1)

    stays : 2 ≤ entry_word env₀ y 0 → leb 2 (entry_word env₀ y 0) ≡ pick (leb 2 (entry_word env y 0)) (leb (entry_word env y 5) level) false
    stays h =
        let a = status_live env₀ y h in
        let q = F.lives y (variable_at env₀ y) a in
        let s = (live_status env y q.0 q.1).0 in
        rw (le-leb 2 (entry_word env₀ y 0) h, le-leb 2 (entry_word env y 0) s, le-leb (entry_word env y 5) level (omega (arith, entry_level q.0 q.1, q.3, N.deep y (variable_at env₀ y) a)))

    new : entry_word env₀ y 0 < 2 → Dec (entry_word env y 0 < 2) → leb 2 (entry_word env₀ y 0) ≡ pick (leb 2 (entry_word env y 0)) (leb (entry_word env y 5) level) false
    new h (yes d) = rw (lt-leb 2 (entry_word env₀ y 0) h, lt-leb 2 (entry_word env y 0) d)
    new h (no d) = go (dec_lt level (entry_word env y 5))
      where
        go : Dec (level < entry_word env y 5) → leb 2 (entry_word env₀ y 0) ≡ pick (leb 2 (entry_word env y 0)) (leb (entry_word env y 5) level) false
        go (yes m) = rw (lt-leb 2 (entry_word env₀ y 0) h, le-leb 2 (entry_word env y 0) (omega arith), lt-leb (entry_word env y 5) level m)
        go (no m) =
            let k = F.old y (variable_at env y) (status_live env y (omega arith)) (omega arith) in
            let s = (live_status env₀ y k.0 k.1).0 in
            absurd (omega arith)

  pub scope_around : (before : Roots) → before ≡ roots_at env₀ (suc nv) → Around env before level
  scope_around before e y = ap (λ (s : Roots). has s y) e ∙ T.2.scope y ∙ go (dec_lt (entry_word env₀ y 0) 2)
    where
      go : Dec (entry_word env₀ y 0 < 2) → leb 2 (entry_word env₀ y 0) ≡ pick (leb 2 (entry_word env y 0)) (leb (entry_word env y 5) level) false
      go (yes h) = new y h (dec_lt (entry_word env y 0) 2)
      go (no h) = stays y (omega arith)
