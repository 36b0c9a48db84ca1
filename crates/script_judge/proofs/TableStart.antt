-- The tables with which the judge starts: in that of the variables nothing is taken, and its notes are right; in that of the uses all is 0.
use Prim.Native.Nat.{ℕ, zero, suc, ◌+◌, ◌≤◌}
use native.Mathlib.Omega.{arith}
use mathlib.Core.Path.{◌≡◌, refl, sym, ap, ◌∙◌, fun_ext}
use mathlib.Core.List.{List}
use lib.ListN.{length, get_or, take, replicate, length-replicate}
use lib.Seq.{length-take-le}
use Rattle.variables.specs.declared.roots.Roots.{Roots}
use Rattle.variables.specs.declared.table.Row.{Row}
use Rattle.statics.specs.Judge.{nothing_taken}
use Rattle.variables.specs.Masks.{is_empty}
use Rattle.variables.specs.Table.{blank, row_at, words_of, entry_word, roots_at, note_at, variable_at, slot_as, environment_of, Noted, TableFor}
use Rattle.variables.proofs.MaskLaws.{none_in}

module _ (l : List Row) (blanks : (x : ℕ) → row_at l x ≡ blank) where
  zeros : (x : ℕ) → entry_word l x 0 ≡ 0
  zeros x = ap (λ (r : Row). get_or (words_of r) 0 0) (blanks x)

  all_free : (nv : ℕ) → environment_of l ≡ nothing_taken nv
  unfolding environment_of slot_as
  all_free nv = fun_ext λ x. ap (λ (s : ℕ). slot_as s (variable_at l x)) (zeros x)

  all_noted : (n : ℕ) → Noted l n
  unfolding is_empty
  all_noted n =
      let most : note_at l (suc n) ≡ 0 = ap (λ (r : Row). r.note) (blanks (suc n)) in
      record {
        held = λ y r a b h e. (let z = zeros y in absurd (omega arith));
        exclusives = λ y h e. (let z = zeros y in absurd (omega arith));
        scope = λ y. none_in (roots_at l (suc n)) (ap (λ (r : Row). is_empty r.roots) (blanks (suc n))) y ∙ rw (zeros y) refl;
        most = omega (arith, most);
        untaken = λ x h. zeros x;
      }

-- The first w of m that are all the same.
module _ {A : Type 0} (a : A) where
  first_same : (m w k : ℕ) → get_or (take w (replicate m a)) k a ≡ a
  first_same m zero k = refl
  first_same zero (suc w) k = refl
  first_same (suc m) (suc w) zero = refl
  first_same (suc m) (suc w) (suc k) = first_same m w k

  part_length : (m w : ℕ) → w ≤ m → length (take w (replicate m a)) ≡ w
  part_length m w h = length-take-le w (replicate m a) (rw (length-replicate m a) h)

-- The parts of two arrays, of w rows and of u numbers, that nv variables take.
module _ (r : Row) (new : r ≡ blank) (w u nv : ℕ) (rows : nv + 2 ≤ w) (fits : nv ≤ u) where
  abbrev table : List Row
  table = take (nv + 2) (replicate w r)

  abbrev uses : List ℕ
  uses = take nv (replicate u 0)

  pub table_long : nv + 2 ≡ length table
  table_long = sym (part_length r w (nv + 2) rows)

  pub uses_long : nv ≡ length uses
  uses_long = sym (part_length 0 u nv fits)

  -- What is asked of both before the script is judged.
  pub tables_ready : nv ≤ 128 → TableFor table nv × (environment_of table ≡ nothing_taken nv) × (length uses ≡ nv) × ((x : ℕ) → ◌≡◌ {A = ℕ} (get_or uses x 0) 0)
  tables_ready most = ((sym table_long, most, all_noted table blanks nv), all_free table blanks nv, sym uses_long, first_same 0 u nv)
    where
      blanks : (x : ℕ) → row_at table x ≡ blank
      blanks x = ap (λ (z : Row). get_or (take (nv + 2) (replicate w r)) x z) (sym new) ∙ first_same r w (nv + 2) x ∙ new
