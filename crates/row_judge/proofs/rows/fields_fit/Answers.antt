-- `row_judge::rows::fields_fit` meets its contract: each arm tests the operands of its kinds, and what stands after them. Assumes nothing.
use Prim.Native.Nat.{ℕ}
use mathlib.Core.Path.{◌≡◌, sym, ap, ◌∙◌}
use mathlib.Core.Bool.{Bool, true, false, ◌&&◌}
use mathlib.Core.Logic.{◌⊎◌, ⊎_elim}
use mathlib.Core.List.{List, [], ◌∷◌, ◌++◌}
use Rattle.syntax.specs.KindNumbers.{as_kind}
use Rattle.syntax.specs.Kinds.{Field, fields}
use Rattle.syntax.specs.Limits.{Limits}
use Rattle.syntax.specs.declared.kinds.Kind as code
use Rattle.syntax.specs.declared.kinds.Kind.TheVariants as kind
use Rattle.syntax.specs.Parts.{place_fields}
use Rattle.syntax.specs.RowParts.{field_fits, fields_fit}
use Rattle.syntax.proofs.RowFields.{and_true, place_then, place_else}
use Rattle.row_judge.proofs.rows.fields_fit.Goals as goal

module _ (f : Field) (a : ℕ) (fs : List Field) (vs : List ℕ) where
  one_then : fields_fit (f ∷ []) (a ∷ []) ≡ true → fields_fit (f ∷ fs) (a ∷ vs) ≡ fields_fit fs vs
  unfolding fields_fit
  one_then h = ap (λ (t : Bool). t && fields_fit fs vs) (sym (and_true (field_fits f a)) ∙ h)

  one_else : fields_fit (f ∷ []) (a ∷ []) ≡ false → fields_fit (f ∷ fs) (a ∷ vs) ≡ false
  unfolding fields_fit
  one_else h = ap (λ (t : Bool). t && fields_fit fs vs) (sym (and_true (field_fits f a)) ∙ h)

-- Kinds with two places, and kinds with one.
module _ (l : Limits) (k : code.Kind) (t : Bool) (vs : List ℕ) where
  two_fit : (k ≡ kind.Below) ⊎ (k ≡ kind.Sum) → t ≡ fields_fit (place_fields l.variables ++ place_fields l.variables) vs → t ≡ fields_fit (fields l (as_kind k)) vs
  unfolding fields
  two_fit h q = ⊎_elim (λ e. rw e q) (λ e. rw e q) h

  one_place_fits : (k ≡ kind.Copy) ⊎ ((k ≡ kind.Move) ⊎ ((k ≡ kind.Shared) ⊎ ((k ≡ kind.Exclusive) ⊎ ((k ≡ kind.Assign) ⊎ (k ≡ kind.Choice))))) → t ≡ fields_fit (place_fields l.variables ++ []) vs → t ≡ fields_fit (fields l (as_kind k)) vs
  unfolding fields
  one_place_fits h q =
      ⊎_elim (λ e. rw e q) (λ h. ⊎_elim (λ e. rw e q) (λ h. ⊎_elim (λ e. rw e q) (λ h. ⊎_elim (λ e. rw e q) (λ h. ⊎_elim (λ e. rw e q) (λ e. rw e q) h) h) h) h) h

pub returns-in-Number : goal.returns-in-Number
unfolding fields fields_fit field_fits
returns-in-Number c = rw c.in-Number.is c.all_zero.ensures

pub returns-then-one_fits : goal.returns-then-one_fits
unfolding fields
returns-then-one_fits c = rw c.in-Reading.is (c.all_zero-then-one_fits.ensures ∙ sym (one_then _ _ [] _ (sym c.one_fits.ensures ∙ c.if-one_fits.true)))

pub returns-else-one_fits : goal.returns-else-one_fits
unfolding fields
returns-else-one_fits c = rw c.in-Reading.is (c.if-one_fits.false ∙ sym (one_else _ _ [] _ (sym c.one_fits.ensures ∙ c.if-one_fits.false)))

pub returns-in-Box : goal.returns-in-Box
unfolding fields
returns-in-Box c = rw c.in-Box.is c.all_zero-in-Box.ensures

pub returns-then-one_fits-2 : goal.returns-then-one_fits-2
unfolding fields
returns-then-one_fits-2 c = rw c.in-Let.is (c.all_zero-then-one_fits-2.ensures ∙ sym (one_then _ _ [] _ (sym c.one_fits-in-Let.ensures ∙ c.if-one_fits-2.true)))

pub returns-else-one_fits-2 : goal.returns-else-one_fits-2
unfolding fields
returns-else-one_fits-2 c = rw c.in-Let.is (c.if-one_fits-2.false ∙ sym (one_else _ _ [] _ (sym c.one_fits-in-Let.ensures ∙ c.if-one_fits-2.false)))

pub returns-then-place_fits : goal.returns-then-place_fits
unfolding fields
returns-then-place_fits c = two_fit c.args.limits.now _ _ _ c.in-Below.is (c.place_fits-then-place_fits.ensures ∙ sym (place_then _ _ _ (place_fields _) _ (sym c.place_fits.ensures ∙ c.if-place_fits.true)))

pub returns-else-place_fits : goal.returns-else-place_fits
unfolding fields
returns-else-place_fits c = two_fit c.args.limits.now _ _ _ c.in-Below.is (c.if-place_fits.false ∙ sym (place_else _ _ _ (place_fields _) _ (sym c.place_fits.ensures ∙ c.if-place_fits.false)))

pub returns-then-one_fits-3 : goal.returns-then-one_fits-3
unfolding fields
returns-then-one_fits-3 c = rw c.in-Block.is (c.all_zero-then-one_fits-3.ensures ∙ sym (one_then _ _ [] _ (sym c.one_fits-in-Block.ensures ∙ c.if-one_fits-3.true)))

pub returns-else-one_fits-3 : goal.returns-else-one_fits-3
unfolding fields
returns-else-one_fits-3 c = rw c.in-Block.is (c.if-one_fits-3.false ∙ sym (one_else _ _ [] _ (sym c.one_fits-in-Block.ensures ∙ c.if-one_fits-3.false)))

pub returns-then-place_fits-2 : goal.returns-then-place_fits-2
unfolding fields
returns-then-place_fits-2 c = one_place_fits c.args.limits.now _ _ _ c.in-Copy.is (c.all_zero-then-place_fits-2.ensures ∙ sym (place_then _ _ _ [] _ (sym c.place_fits-in-Copy.ensures ∙ c.if-place_fits-2.true)))

pub returns-else-place_fits-2 : goal.returns-else-place_fits-2
unfolding fields
returns-else-place_fits-2 c = one_place_fits c.args.limits.now _ _ _ c.in-Copy.is (c.if-place_fits-2.false ∙ sym (place_else _ _ _ [] _ (sym c.place_fits-in-Copy.ensures ∙ c.if-place_fits-2.false)))
