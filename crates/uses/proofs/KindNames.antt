-- What a row names, by its kind. Assumes nothing.
use Prim.Native.Nat.{ℕ}
use native.Mathlib.Omega.{arith}
use mathlib.Core.Path.{◌≡◌, refl, sym, ap, ◌∙◌}
use mathlib.Core.Logic.{◌⊎◌, inl, inr, ⊎_elim}
use mathlib.Core.Bool.{Bool, true, false, not}
use mathlib.Core.Option.{Option, none, some}
use mathlib.Core.List.{List, [], ◌∷◌}
use denote.Enum.Bare.{sameb, same_true}
use borrow.Author.Rules.{rules}
use Rattle.std.proofs.lemmas.Bool.{not-false}
use Rattle.syntax.specs.contracts.kinds.Kind.{the_type}
use Rattle.syntax.specs.declared.kinds.Kind.{Kind}
use Rattle.syntax.specs.declared.kinds.Kind.TheVariants as kind
use Rattle.syntax.specs.Kinds as table
use Rattle.syntax.specs.Kinds.{newest, byte_of, kinds, among, kind_of, wraps_of}
use Rattle.syntax.specs.KindNumbers.{number_in, as_kind}
use Rattle.syntax.specs.Parts.{IsKind}
use Rattle.syntax.specs.RowParts.{field_at}
use Rattle.syntax.proofs.KindBytes.{found, wrapping}
use Rattle.uses.specs.RowUses.{names_of, row_names}

-- ---- the kind of a row

-- The code's kind is that of its number.
number_kind : (k : Kind) → kind_of newest (number_in k) ≡ some (as_kind k)
unfolding newest kind_of among kinds byte_of
number_kind kind.Number = refl
number_kind kind.Reading = refl
number_kind kind.Copy = refl
number_kind kind.Move = refl
number_kind kind.Shared = refl
number_kind kind.Exclusive = refl
number_kind kind.Box = refl
number_kind kind.Let = refl
number_kind kind.Assign = refl
number_kind kind.Below = refl
number_kind kind.Block = refl
number_kind kind.Choice = refl
number_kind kind.Sum = refl

pub kind_read : (k : Kind) {n : ℕ} → number_in k ≡ n → kind_of newest n ≡ some (as_kind k)
kind_read k e = rw (← e) (number_kind k)

-- What is no kind's number has none.
pub byte_kind : (k : table.Kind) → IsKind (byte_of k)
unfolding byte_of
byte_kind table.k_number = omega arith
byte_kind table.k_reading = omega arith
byte_kind table.k_copy = omega arith
byte_kind table.k_move = omega arith
byte_kind table.k_shared = omega arith
byte_kind table.k_exclusive = omega arith
byte_kind table.k_box = omega arith
byte_kind table.k_let = omega arith
byte_kind table.k_assign = omega arith
byte_kind table.k_below = omega arith
byte_kind table.k_block = omega arith
byte_kind table.k_choice = omega arith
byte_kind table.k_sum = omega arith

pub no_kind : (n : ℕ) → (IsKind n → ⊥) → kind_of newest n ≡ none
no_kind n h = go (kind_of newest n) refl
  where
    go : (o : Option table.Kind) → kind_of newest n ≡ o → o ≡ none
    go none e = refl
    go (some k) e = absurd (h (rw (found newest n k e) at (byte_kind k)))

-- A kind around one inner term is a kind.
pub wraps_kind : (n : ℕ) → wraps_of n ≡ true → IsKind n
wraps_kind n w = ⊎_elim (λ q. (omega arith, omega arith)) (⊎_elim (λ q. (omega arith, omega arith)) (λ q. (omega arith, omega arith))) (wrapping n w)

-- A number is that of one kind.
abbrev code_kind : table.Kind → Kind
code_kind table.k_number = kind.Number
code_kind table.k_reading = kind.Reading
code_kind table.k_copy = kind.Copy
code_kind table.k_move = kind.Move
code_kind table.k_shared = kind.Shared
code_kind table.k_exclusive = kind.Exclusive
code_kind table.k_box = kind.Box
code_kind table.k_let = kind.Let
code_kind table.k_assign = kind.Assign
code_kind table.k_below = kind.Below
code_kind table.k_block = kind.Block
code_kind table.k_choice = kind.Choice
code_kind table.k_sum = kind.Sum

same_kind : (k : Kind) → code_kind (as_kind k) ≡ k
same_kind kind.Number = refl
same_kind kind.Reading = refl
same_kind kind.Copy = refl
same_kind kind.Move = refl
same_kind kind.Shared = refl
same_kind kind.Exclusive = refl
same_kind kind.Box = refl
same_kind kind.Let = refl
same_kind kind.Assign = refl
same_kind kind.Below = refl
same_kind kind.Block = refl
same_kind kind.Choice = refl
same_kind kind.Sum = refl

pub same_number : (k j : Kind) → number_in k ≡ number_in j → k ≡ j
same_number k j e =
    let z : some (as_kind k) ≡ some (as_kind j) = sym (kind_read k e) ∙ kind_read j refl in
    let y : as_kind k ≡ as_kind j = cc in
    sym (same_kind k) ∙ ap code_kind y ∙ same_kind j

-- What the code's test for another kind tells.
pub not_other : (k j : Kind) {b : Bool} → b ≡ not (sameb the_type k j) → b ≡ false → k ≡ j
not_other k j e f = same_true the_type (search rules) k j (not-false (sameb the_type k j) (sym e ∙ f))

-- ---- what it names

-- The kinds that name the variable in field 1, those that name the one in field 3 besides, and those that name none.
abbrev pub NamesFirst : Kind → Type 0
NamesFirst k = (k ≡ kind.Copy) ⊎ (k ≡ kind.Move) ⊎ (k ≡ kind.Shared) ⊎ (k ≡ kind.Exclusive) ⊎ (k ≡ kind.Let) ⊎ (k ≡ kind.Assign) ⊎ (k ≡ kind.Choice)

abbrev pub NamesBoth : Kind → Type 0
NamesBoth k = (k ≡ kind.Below) ⊎ (k ≡ kind.Sum)

abbrev pub NamesNone : Kind → Type 0
NamesNone k = (k ≡ kind.Number) ⊎ (k ≡ kind.Reading) ⊎ (k ≡ kind.Box) ⊎ (k ≡ kind.Block)

pub names_first : (k : Kind) (x y : ℕ) → NamesFirst k → names_of (some (as_kind k)) x y ≡ x ∷ []
unfolding names_of
names_first k x y h = ⊎_elim (λ q. rw q) (⊎_elim (λ q. rw q) (⊎_elim (λ q. rw q) (⊎_elim (λ q. rw q) (⊎_elim (λ q. rw q) (⊎_elim (λ q. rw q) (λ q. rw q)))))) h

pub names_both : (k : Kind) (x y : ℕ) → NamesBoth k → names_of (some (as_kind k)) x y ≡ x ∷ y ∷ []
unfolding names_of
names_both k x y h = ⊎_elim (λ q. rw q) (λ q. rw q) h

names_none : (k : Kind) (x y : ℕ) → NamesNone k → names_of (some (as_kind k)) x y ≡ []
unfolding names_of
names_none k x y h = ⊎_elim (λ q. rw q) (⊎_elim (λ q. rw q) (⊎_elim (λ q. rw q) (λ q. rw q))) h

module _ (rows : List ℕ) (i n : ℕ) (is : n ≡ field_at rows i 0) where
  -- What no kind has names nothing.
  pub row_unknown : (IsKind n → ⊥) → row_names rows i ≡ []
  unfolding names_of
  row_unknown h = rw (← is, no_kind n h)

  module _ (k : Kind) (read : number_in k ≡ n) where
    pub row_kind : row_names rows i ≡ names_of (some (as_kind k)) (field_at rows i 1) (field_at rows i 3)
    row_kind = rw (← is, kind_read k read)

    pub row_first : NamesFirst k → row_names rows i ≡ field_at rows i 1 ∷ []
    row_first h = row_kind ∙ names_first k (field_at rows i 1) (field_at rows i 3) h

    pub row_both : NamesBoth k → row_names rows i ≡ field_at rows i 1 ∷ field_at rows i 3 ∷ []
    row_both h = row_kind ∙ names_both k (field_at rows i 1) (field_at rows i 3) h

    pub row_none : NamesNone k → row_names rows i ≡ []
    row_none h = row_kind ∙ names_none k (field_at rows i 1) (field_at rows i 3) h

-- Of the kinds around one inner term a let and an assign name one variable, and a box none.
pub wrap_first : (k : Kind) → wraps_of (number_in k) ≡ true → (k ≡ kind.Box → ⊥) → NamesFirst k
wrap_first k w h = ⊎_elim (λ q. absurd (h (same_number k kind.Box q))) (⊎_elim (λ q. inr (inr (inr (inr (inl (same_number k kind.Let q)))))) (λ q. inr (inr (inr (inr (inr (inl (same_number k kind.Assign q)))))))) (wrapping (number_in k) w)

pub wrap_one : (k x y : ℕ) → wraps_of k ≡ true → (k ≡ 7 → ⊥) → names_of (kind_of newest k) x y ≡ x ∷ []
unfolding names_of newest kind_of among kinds byte_of
wrap_one k x y w n = ⊎_elim (λ q. absurd (n q)) (λ h. ⊎_elim (λ q. rw q) (λ q. rw q) h) (wrapping k w)

pub box_none : (k x y : ℕ) → k ≡ 7 → names_of (kind_of newest k) x y ≡ []
unfolding names_of newest kind_of among kinds byte_of
box_none k x y q = rw q
