-- The terms that have no inner term.
use Prim.Native.Nat.{ℕ, ◌+◌, ◌-◌, ◌<◌}
use mathlib.Core.Path.{◌≡◌, refl, sym, ◌∙◌}
use mathlib.Core.Logic.{⊎_elim}
use mathlib.Core.Bool.{Bool, true, false, false≢true}
use mathlib.Core.Option.{Option, none, some}
use mathlib.Core.List.{List, ◌++◌}
use lib.Dec.{ltb}
use Rattle.syntax.specs.Result.{ok}
use Rattle.syntax.specs.Script as script
use Rattle.syntax.specs.Script.{Term}
use Rattle.syntax.specs.declared.kinds.Kind.{Kind}
use Rattle.syntax.specs.declared.kinds.Kind.TheVariants as kind
use Rattle.syntax.specs.Kinds as table
use Rattle.syntax.specs.Kinds.{newest, kind_of, wraps_of, byte_of}
use Rattle.syntax.specs.Parts.{IsKind}
use Rattle.syntax.proofs.KindBytes.{found}
use Rattle.syntax.specs.KindNumbers.{number_in, as_kind}
use Rattle.syntax.specs.RowParts.{field_at}
use Rattle.syntax.specs.RowTrees.{place_at, RowTree, IsTree, only_if, kind_at, tree_at}
use Rattle.syntax.proofs.RowTreeLaws.{only_in, only_is, tree_kind}
use Rattle.variables.specs.declared.table.Place.{Place}
use Rattle.statics.specs.Environment.{Environment}
use Rattle.statics.specs.Uses.{Unfinished, finishing, names}
use Rattle.statics.specs.Rules.{number_ty, judge_below}
use Rattle.statics.specs.Judge.{judge}
use Rattle.variables.specs.Table.{as_place}
use Rattle.uses.specs.RowUses.{names_of}
use Rattle.uses.specs.RowPlaces.{row_place}
use Rattle.term_judge.specs.JudgeRows.{Ended, at_row, judged_at, judge_at, judge_leaf}
use Rattle.uses.proofs.KindNames.{NamesBoth, byte_kind, kind_read, row_kind}
use Rattle.term_judge.proofs.TreeNames.{row_below}

-- The rule of below and sum, which names two places.
pub leaf_both : (nv : ℕ) (k : Kind) (i : ℕ) (p q : script.Place) (ns : Unfinished) (Γ : Environment) → NamesBoth k → judge_below nv ns Γ i p q ≡ judge_leaf nv (some (as_kind k)) i p q ns Γ
unfolding judge_leaf
leaf_both nv k i p q ns Γ h = ⊎_elim (λ e. rw e) (λ e. rw e) h

-- Number and reading, and what the term judge never hands on.
pub leaf_number_law : (nv : ℕ) (k : Kind) (i : ℕ) (p q : script.Place) (ns : Unfinished) (Γ : Environment) → (k ≡ kind.Copy → ⊥) → (k ≡ kind.Move → ⊥) → (k ≡ kind.Shared → ⊥) → (k ≡ kind.Exclusive → ⊥) → (k ≡ kind.Below → ⊥) → (k ≡ kind.Sum → ⊥) → judge_leaf nv (some (as_kind k)) i p q ns Γ ≡ ok (Γ, some number_ty)
unfolding judge_leaf
leaf_number_law nv kind.Number i p q ns Γ a b c d e f = refl
leaf_number_law nv kind.Reading i p q ns Γ a b c d e f = refl
leaf_number_law nv kind.Copy i p q ns Γ a b c d e f = absurd (a refl)
leaf_number_law nv kind.Move i p q ns Γ a b c d e f = absurd (b refl)
leaf_number_law nv kind.Shared i p q ns Γ a b c d e f = absurd (c refl)
leaf_number_law nv kind.Exclusive i p q ns Γ a b c d e f = absurd (d refl)
leaf_number_law nv kind.Box i p q ns Γ a b c d e f = refl
leaf_number_law nv kind.Let i p q ns Γ a b c d e f = refl
leaf_number_law nv kind.Assign i p q ns Γ a b c d e f = refl
leaf_number_law nv kind.Below i p q ns Γ a b c d e f = absurd (e refl)
leaf_number_law nv kind.Block i p q ns Γ a b c d e f = refl
leaf_number_law nv kind.Choice i p q ns Γ a b c d e f = refl
leaf_number_law nv kind.Sum i p q ns Γ a b c d e f = absurd (f refl)

pub leaf_judged : (nv l : ℕ) (rows : List ℕ) (i : ℕ) → IsTree (tree_at nv l rows i) → (level : ℕ) (later : ℕ → Unfinished) (Γ : Environment) (k : Kind) → number_in k ≡ field_at rows i 0 → wraps_of (field_at rows i 0) ≡ false → (k ≡ kind.Block → ⊥) → (k ≡ kind.Choice → ⊥) → (p q : Place) → p ≡ row_place rows i 1 → q ≡ row_place rows i 3 → (E : Ended)
    → ((t : Term) → tree_at nv l rows i ≡ some (t, i + 1) → E ≡ at_row (i + 1) (judge_leaf nv (some (as_kind k)) i (as_place p) (as_place q) (finishing t ++ later (i + 1)) Γ)) → E ≡ judge_at nv (tree_at nv l rows i) level later Γ
unfolding judged_at judge kind_at judge_leaf wraps_of byte_of
leaf_judged nv l rows i good level later Γ k ek n d c p q ep eq E w =
    let z : tree_at nv l rows i ≡ kind_at (some (as_kind k)) nv (tree_at nv (l - 1) rows) rows i = tree_kind nv l rows i (some (as_kind k)) good (kind_read k ek) in
    rw z (go (tree_at nv (l - 1) rows) k (rw (← ek) at n) d c (rw z at good) (λ t e. rw (ep, eq) at (w t (z ∙ e))))
  where
    -- The term in its row, where one test of the row is met, and where two are.
    alone : (b : Bool) (u : Term) → IsTree (only_if b (some (u, i + 1))) → (only_if b (some (u, i + 1)) ≡ some (u, i + 1) → E ≡ at_row (i + 1) (judge nv u level (finishing u ++ later (i + 1)) Γ)) → E ≡ judge_at nv (only_if b (some (u, i + 1))) level later Γ
    alone b u t w = let a = only_is b (some (u, i + 1)) t in w a ∙ rw a

    both : (u : Term) → IsTree (only_if (ltb (field_at rows i 1) nv) (only_if (ltb (field_at rows i 3) nv) (some (u, i + 1)))) → (only_if (ltb (field_at rows i 1) nv) (only_if (ltb (field_at rows i 3) nv) (some (u, i + 1))) ≡ some (u, i + 1) → E ≡ at_row (i + 1) (judge nv u level (finishing u ++ later (i + 1)) Γ)) → E ≡ judge_at nv (only_if (ltb (field_at rows i 1) nv) (only_if (ltb (field_at rows i 3) nv) (some (u, i + 1)))) level later Γ
    both u t w =
        let d = only_if (ltb (field_at rows i 3) nv) (some (u, i + 1)) in
        let a = only_is (ltb (field_at rows i 1) nv) d t in
        rw a (alone (ltb (field_at rows i 3) nv) u (only_in (ltb (field_at rows i 1) nv) d t) (λ e. w (a ∙ e)))

    go : (f : ℕ → RowTree Term) (k : Kind) → wraps_of (number_in k) ≡ false → (k ≡ kind.Block → ⊥) → (k ≡ kind.Choice → ⊥) → IsTree (kind_at (some (as_kind k)) nv f rows i)
        → ((t : Term) → kind_at (some (as_kind k)) nv f rows i ≡ some (t, i + 1) → E ≡ at_row (i + 1) (judge_leaf nv (some (as_kind k)) i (place_at rows i 1) (place_at rows i 3) (finishing t ++ later (i + 1)) Γ)) → E ≡ judge_at nv (kind_at (some (as_kind k)) nv f rows i) level later Γ
    go f kind.Number n d c t w = w (script.number i (field_at rows i 1)) refl
    go f kind.Reading n d c t w = alone (ltb (field_at rows i 1) 8) (script.reading i (field_at rows i 1)) t (w (script.reading i (field_at rows i 1)))
    go f kind.Copy n d c t w = alone (ltb (field_at rows i 1) nv) (script.copy i (place_at rows i 1)) t (w (script.copy i (place_at rows i 1)))
    go f kind.Move n d c t w = alone (ltb (field_at rows i 1) nv) (script.move i (place_at rows i 1)) t (w (script.move i (place_at rows i 1)))
    go f kind.Shared n d c t w = alone (ltb (field_at rows i 1) nv) (script.borrow_shared i (place_at rows i 1)) t (w (script.borrow_shared i (place_at rows i 1)))
    go f kind.Exclusive n d c t w = alone (ltb (field_at rows i 1) nv) (script.borrow_exclusive i (place_at rows i 1)) t (w (script.borrow_exclusive i (place_at rows i 1)))
    go f kind.Box n d c t w = absurd (false≢true (sym n))
    go f kind.Let n d c t w = absurd (false≢true (sym n))
    go f kind.Assign n d c t w = absurd (false≢true (sym n))
    go f kind.Below n d c t w = both (script.below i (place_at rows i 1) (place_at rows i 3)) t (w (script.below i (place_at rows i 1) (place_at rows i 3)))
    go f kind.Sum n d c t w = both (script.sum i (place_at rows i 1) (place_at rows i 3)) t (w (script.sum i (place_at rows i 1) (place_at rows i 3)))
    go f kind.Block n d c t w = absurd (d refl)
    go f kind.Choice n d c t w = absurd (c refl)

-- What it names is below the number of variables.
pub leaf_below_law : (nv l : ℕ) (rows : List ℕ) (i : ℕ) → IsTree (tree_at nv l rows i) → (k : Kind) → number_in k ≡ field_at rows i 0 → (p q : Place) → p ≡ row_place rows i 1 → q ≡ row_place rows i 3 → (x : ℕ) → names (names_of (some (as_kind k)) p.root q.root) x ≡ true → x < nv
leaf_below_law nv l rows i good k ek p q ep eq x h = row_below nv l rows i good x (rw (ep, eq, ← row_kind rows i (field_at rows i 0) refl k ek) at h)

-- Where a tree stands, its row has a kind.
pub tree_known : (nv l : ℕ) (rows : List ℕ) (i : ℕ) → IsTree (tree_at nv l rows i) → IsKind (field_at rows i 0)
unfolding kind_at
tree_known nv l rows i good = go (kind_of newest (field_at rows i 0)) refl
  where
    go : (o : Option table.Kind) → kind_of newest (field_at rows i 0) ≡ o → IsKind (field_at rows i 0)
    go none e = absurd (rw (tree_kind nv l rows i none good e) at good)
    go (some k) e = rw (found newest (field_at rows i 0) k e) at (byte_kind k)
