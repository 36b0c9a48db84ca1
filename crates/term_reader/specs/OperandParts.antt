-- What the operands of a term are read as. No rule of the language is stated here.
use Rattle.std.specs.Prelude.{ℕ, ◌≡◌, ◌+◌, List, get_or}
use Rattle.std.specs.Prelude as prelude
use Rattle.syntax.specs.Kinds.{Field}
use Rattle.syntax.specs.Parts.{place_fields}
use Rattle.syntax.specs.ByteParts.{judged_fields, values_at, row_fields}
use Rattle.syntax.specs.Refusals.{told}
use Rattle.syntax.specs.declared.refusals.Refusal as answer
use Rattle.term_reader.specs.declared.operands.Operands.{Operands}

-- The fields of a row where its operands are read; of a refusal nothing is said.
abbrev pub FieldsRead : List ℕ → prelude.Result Operands answer.Refusal → Type 0
FieldsRead vs (prelude.Ok o) = o.fields ≡ row_fields vs
FieldsRead vs (prelude.Err r) = Unit {0}

-- The operands after the kind byte that begins t, at offset at: where they end, or the refusal; and the fields of the row.
abbrev pub OperandsRead : List Field → List ℕ → ℕ → prelude.Result Operands answer.Refusal → Type 0
OperandsRead fs t at r = (told (λ (o : Operands). o.end) r ≡ judged_fields fs t at 1) × FieldsRead (values_at fs t 1) r

-- A place in the bytes at j and j + 1: where it ends, or the refusal; and its root and its follows.
abbrev pub PlaceRead : ℕ → List ℕ → ℕ → ℕ → prelude.Result (record { 0 : ℕ; 1 : ℕ }) answer.Refusal → Type 0
PlaceRead nv t at j r = (told (λ p. j + 2) r ≡ judged_fields (place_fields nv) t at j) × prelude.IfOk r (λ p. (p.0 ≡ get_or t j 0) × (p.1 ≡ get_or t (j + 1) 0))
