-- `term_reader::operands::read_operands` meets its contract: each arm reads the operands of its kind. Assumes nothing.
use mathlib.Core.Path.{◌≡◌, refl}
use mathlib.Core.Logic.{◌⊎◌, ⊎_elim, inl, inr}
use Rattle.syntax.specs.Limits.{Limits}
use Rattle.syntax.specs.Kinds.{newest, kind_of, kinds, among, byte_of, fields}
use Rattle.syntax.specs.KindNumbers.{number_in}
use Rattle.syntax.specs.Parts.{fields_in, fields_of, place_fields}
use Rattle.syntax.specs.declared.kinds.Kind.{Kind}
use Rattle.syntax.specs.declared.kinds.Kind.TheVariants as kind
use Rattle.syntax.specs.Layout.{zeros}
use Rattle.syntax.specs.ByteParts.{judged_fields, values_at, two_place_fields}
use Rattle.syntax.proofs.KnownKinds.{fields_number, fields_reading, fields_box, fields_let, fields_two, fields_block}
use Rattle.term_reader.proofs.operands.read_operands.Goals as goal

pub returns-in-Number : goal.returns-in-Number
returns-in-Number c = rw (c.in-Number.is, fields_number) c.read_word.ensures

pub returns-in-Reading : goal.returns-in-Reading
returns-in-Reading c = rw (c.in-Reading.is, fields_reading) c.read_one.ensures

pub returns-in-Let : goal.returns-in-Let
returns-in-Let c = rw (c.in-Let.is, fields_let) c.read_one-in-Let.ensures

pub returns-in-Block : goal.returns-in-Block
returns-in-Block c = rw (c.in-Block.is, fields_block) c.read_one-in-Block.ensures

pub returns-in-Box : goal.returns-in-Box
unfolding judged_fields values_at zeros
returns-in-Box c = rw (c.in-Box.is, fields_box) (refl, refl)

two_places : (l : Limits) (k : Kind) → (k ≡ kind.Below) ⊎ (k ≡ kind.Sum) → fields_of l (number_in k) ≡ two_place_fields l.variables
two_places l k h = ⊎_elim (λ e. rw e (fields_two l 10 (inl refl))) (λ e. rw e (fields_two l 13 (inr refl))) h

pub returns-in-Below : goal.returns-in-Below
returns-in-Below c = rw (two_places _ _ c.in-Below.is) c.read_two_places.ensures

one_place : (l : Limits) (k : Kind) → (k ≡ kind.Copy) ⊎ ((k ≡ kind.Move) ⊎ ((k ≡ kind.Shared) ⊎ ((k ≡ kind.Exclusive) ⊎ ((k ≡ kind.Assign) ⊎ (k ≡ kind.Choice))))) → fields_of l (number_in k) ≡ place_fields l.variables
unfolding fields_of fields_in newest kind_of kinds among byte_of fields
one_place l k h =
    ⊎_elim (λ e. rw e refl) (λ h. ⊎_elim (λ e. rw e refl) (λ h. ⊎_elim (λ e. rw e refl) (λ h. ⊎_elim (λ e. rw e refl) (λ h. ⊎_elim (λ e. rw e refl) (λ e. rw e refl) h) h) h) h) h

pub returns-in-Copy : goal.returns-in-Copy
returns-in-Copy c = rw (one_place _ _ c.in-Copy.is) c.read_place.ensures
