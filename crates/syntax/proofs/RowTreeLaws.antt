-- The term at a row, in the form in which check and machine rely on it: room for the row, a level, and for each kind what its row says
-- and what stands inside.
use Prim.Native.Nat.{ℕ, zero, suc, ◌+◌, ◌*◌, ◌-◌, ◌<◌, ◌≤◌}
use native.Mathlib.Omega.{arith}
use native.Mathlib.Numerals.{sub-one}
use mathlib.Core.Path.{◌≡◌, refl, ◌∙◌}
use mathlib.Core.Logic.{⊎_elim}
use mathlib.Core.Bool.{Bool, true, false}
use mathlib.Core.Option.{Option, none, some}
use mathlib.Core.List.{List}
use lib.Dec.{leb, ltb}
use lib.ListN.{length}
use borrow.Author.Tests.{leb-true, ltb-true}
use Rattle.syntax.specs.Script.{Term, Terms, box, declare, assign, block, last}
use Rattle.syntax.specs.Kinds.{Kind, k_box, k_let, k_assign, k_block, byte_of, newest, kinds, among, kind_of, wraps_of}
use Rattle.syntax.specs.RowParts.{field_at}
use Rattle.syntax.specs.RowTrees.{place_at, RowTree, IsTree, only_if, around, before, several_at, terms_at, IsRest, kind_at, tree_at}
use Rattle.syntax.proofs.KindBytes.{wrapping}

-- ---- trees put together

module _ {A : Type 0} where
  pub only_if_law : (b : Bool) (d : RowTree A) → IsTree (only_if b d) → b ≡ true
  only_if_law true d h = refl
  only_if_law false d h = absurd h

  pub only_in : (b : Bool) (d : RowTree A) → IsTree (only_if b d) → IsTree d
  only_in true d h = h
  only_in false d h = absurd h

  pub only_is : (b : Bool) (d : RowTree A) → IsTree (only_if b d) → only_if b d ≡ d
  only_is true d h = refl
  only_is false d h = absurd h

  pub around_inner : {B : Type 0} (f : A → B) (d : RowTree A) → IsTree (around f d) → IsTree d
  around_inner f none h = absurd h
  around_inner f (some r) h = tt

-- What is left of a block: its first term, and one term alone.
first_before : (d : RowTree Term) (rest : ℕ → RowTree Terms) → IsTree (before d rest) → IsTree d
first_before none rest h = absurd h
first_before (some r) rest h = tt

pub rest_first : (f : ℕ → RowTree Term) (n i : ℕ) → 0 < n → IsRest f n i → IsTree (f i)
unfolding several_at
rest_first f zero i b h = absurd (omega arith)
rest_first f (suc zero) i b h = around_inner last (f i) h
rest_first f (suc (suc n)) i b h = first_before (f i) (several_at f n) h

pub rest_one : (f : ℕ → RowTree Term) (i : ℕ) → IsTree (f i) → IsRest f 1 i
unfolding several_at
rest_one f i h = go (f i) h
  where
    go : (d : RowTree Term) → IsTree d → IsTree (around last d)
    go none h = absurd h
    go (some r) h = tt

-- ---- a term in its row

module _ (nv : ℕ) where
  pub has_level : (l : ℕ) (rows : List ℕ) (i : ℕ) → IsTree (tree_at nv l rows i) → 0 < l
  unfolding tree_at
  has_level zero rows i h = absurd h
  has_level (suc l) rows i h = omega arith

  pub has_room : (l : ℕ) (rows : List ℕ) (i : ℕ) → IsTree (tree_at nv l rows i) → 5 * i + 5 ≤ length rows
  unfolding tree_at
  has_room zero rows i h = absurd h
  has_room (suc l) rows i h = leb-true _ _ (only_if_law _ _ h)

  pub tree_kind : (l : ℕ) (rows : List ℕ) (i : ℕ) (o : Option Kind) → IsTree (tree_at nv l rows i) → kind_of newest (field_at rows i 0) ≡ o → tree_at nv l rows i ≡ kind_at o nv (tree_at nv (l - 1) rows) rows i
  unfolding tree_at
  tree_kind zero rows i o h e = absurd h
  tree_kind (suc l) rows i o h e =
      let q : leb (5 * i + 5) (length rows) ≡ true = only_if_law (leb (5 * i + 5) (length rows)) (kind_at (kind_of newest (field_at rows i 0)) nv (tree_at nv l rows) rows i) h in
      rw (sub-one, q, e)

module _ (nv l : ℕ) (rows : List ℕ) (i : ℕ) (good : IsTree (tree_at nv l rows i)) where
  abbrev inner : RowTree Term
  inner = tree_at nv (l - 1) rows (i + 1)

  pub box_is : field_at rows i 0 ≡ 7 → tree_at nv l rows i ≡ around (box i) inner
  unfolding kind_at newest kind_of among kinds byte_of
  box_is e = tree_kind nv l rows i (some k_box) good (rw e)

  let_kind : field_at rows i 0 ≡ 8 → tree_at nv l rows i ≡ only_if (ltb (field_at rows i 1) nv) (around (declare i (field_at rows i 1)) inner)
  unfolding kind_at newest kind_of among kinds byte_of
  let_kind e = tree_kind nv l rows i (some k_let) good (rw e)

  let_in : field_at rows i 0 ≡ 8 → ltb (field_at rows i 1) nv ≡ true
  let_in e = only_if_law (ltb (field_at rows i 1) nv) (around (declare i (field_at rows i 1)) inner) (rw (let_kind e) at good)

  pub let_number : field_at rows i 0 ≡ 8 → field_at rows i 1 < nv
  let_number e = ltb-true _ _ (let_in e)

  pub let_is : field_at rows i 0 ≡ 8 → tree_at nv l rows i ≡ around (declare i (field_at rows i 1)) inner
  let_is e = let_kind e ∙ rw (let_in e)

  assign_kind : field_at rows i 0 ≡ 9 → tree_at nv l rows i ≡ only_if (ltb (field_at rows i 1) nv) (around (assign i (place_at rows i 1)) inner)
  unfolding kind_at newest kind_of among kinds byte_of
  assign_kind e = tree_kind nv l rows i (some k_assign) good (rw e)

  assign_in : field_at rows i 0 ≡ 9 → ltb (field_at rows i 1) nv ≡ true
  assign_in e = only_if_law (ltb (field_at rows i 1) nv) (around (assign i (place_at rows i 1)) inner) (rw (assign_kind e) at good)

  pub assign_root : field_at rows i 0 ≡ 9 → field_at rows i 1 < nv
  assign_root e = ltb-true _ _ (assign_in e)

  pub assign_is : field_at rows i 0 ≡ 9 → tree_at nv l rows i ≡ around (assign i (place_at rows i 1)) inner
  assign_is e = assign_kind e ∙ rw (assign_in e)

  -- Box, let and assign stand around the term in the next row.
  pub wrapped_inner : wraps_of (field_at rows i 0) ≡ true → IsTree inner
  wrapped_inner w = ⊎_elim boxed (λ h. ⊎_elim bound assigned h) (wrapping (field_at rows i 0) w)
    where
      boxed : field_at rows i 0 ≡ 7 → IsTree inner
      boxed e = around_inner (box i) inner (rw (box_is e) at good)

      bound : field_at rows i 0 ≡ 8 → IsTree inner
      bound e = around_inner (declare i (field_at rows i 1)) inner (rw (let_is e) at good)

      assigned : field_at rows i 0 ≡ 9 → IsTree inner
      assigned e = around_inner (assign i (place_at rows i 1)) inner (rw (assign_is e) at good)

  pub block_is : field_at rows i 0 ≡ 11 → tree_at nv l rows i ≡ around (block i) (terms_at (tree_at nv (l - 1) rows) (field_at rows i 1) (i + 1))
  unfolding kind_at newest kind_of among kinds byte_of
  block_is e = tree_kind nv l rows i (some k_block) good (rw e)

  pub block_inner : field_at rows i 0 ≡ 11 → IsTree (terms_at (tree_at nv (l - 1) rows) (field_at rows i 1) (i + 1))
  block_inner e = around_inner (block i) (terms_at (tree_at nv (l - 1) rows) (field_at rows i 1) (i + 1)) (rw (block_is e) at good)

  pub block_rest : field_at rows i 0 ≡ 11 → (n : ℕ) → n ≡ field_at rows i 1 → IsRest (tree_at nv (l - 1) rows) n (i + 1)
  unfolding terms_at
  block_rest e n en = rw en (rest (field_at rows i 1) (block_inner e))
    where
      rest : (n : ℕ) → IsTree (terms_at (tree_at nv (l - 1) rows) n (i + 1)) → IsRest (tree_at nv (l - 1) rows) n (i + 1)
      rest zero h = absurd h
      rest (suc n) h = h
