-- The choice in its rows (LANGUAGE 2.3): a row with its place, then two blocks, the second from the row after the first on. And every term
-- stands in as many rows as it has terms (2.6), so that what stands after it is known without its being run or judged.
use Prim.Native.Nat.{ℕ, zero, suc, ◌+◌, ◌*◌, ◌-◌, ◌<◌, ◌≤◌}
use native.Mathlib.Omega.{arith}
use mathlib.Core.Path.{◌≡◌, refl, ap, ◌∙◌}
use mathlib.Core.Bool.{Bool, true, false}
use mathlib.Core.Option.{Option, none, some}
use mathlib.Core.List.{List}
use lib.Dec.{leb, ltb, eqb}
use lib.ListN.{length}
use borrow.Author.Tests.{leb-true, ltb-true, eqb-true}
use Rattle.syntax.specs.Script.{Term, Terms, number, box, declare, assign, block, choice, last, more}
use Rattle.syntax.specs.Kinds.{Kind, k_number, k_reading, k_copy, k_move, k_shared, k_exclusive, k_box, k_let, k_assign, k_below, k_block, k_choice, k_sum, byte_of, newest, kinds, among, kind_of}
use Rattle.syntax.specs.Reader.{branch}
use Rattle.syntax.specs.Measures.{size, sizes}
use Rattle.syntax.specs.RowParts.{field_at}
use Rattle.syntax.specs.RowTrees.{place_at, RowTree, IsTree, only_if, around, before, several_at, terms_at, block_at, then_block, choice_of, kind_at, tree_at}
use Rattle.syntax.proofs.RowTreeLaws.{only_if_law, around_inner, tree_kind, block_is, block_inner}

-- What is said to stand there is a tree.
pub tree_some : {A : Type 0} {d : RowTree A} (r : A × ℕ) → d ≡ some r → IsTree d
tree_some r e = rw e tt

-- ---- a block, and a choice

-- A block at row i: its terms, and the row after it.
pub record BlockRows (nv l : ℕ) (rows : List ℕ) (i : ℕ) : Type 0 where
  pub terms : Terms
  pub end : ℕ
  pub kind : field_at rows i 0 ≡ 11
  pub is : tree_at nv l rows i ≡ some (block i terms, end)
  pub inner : terms_at (tree_at nv (l - 1) rows) (field_at rows i 1) (i + 1) ≡ some (terms, end)

-- A choice at row i: its place, and its two blocks, which are one level deeper.
pub record ChoiceRows (nv l : ℕ) (rows : List ℕ) (i : ℕ) : Type 0 where
  pub root : field_at rows i 1 < nv
  pub first : BlockRows nv (l - 1) rows (i + 1)
  pub second : BlockRows nv (l - 1) rows first.end
  pub is : tree_at nv l rows i ≡ some (choice i (place_at rows i 1) (i + 1) first.terms first.end second.terms, second.end)

module _ (nv l : ℕ) (rows : List ℕ) (i : ℕ) where
  pub block_rows_law : IsTree (tree_at nv l rows i) → field_at rows i 0 ≡ 11 → BlockRows nv l rows i
  block_rows_law good e = go (terms_at (tree_at nv (l - 1) rows) (field_at rows i 1) (i + 1)) refl (block_inner nv l rows i good e)
    where
      go : (d : RowTree Terms) → terms_at (tree_at nv (l - 1) rows) (field_at rows i 1) (i + 1) ≡ d → IsTree d → BlockRows nv l rows i
      go none q h = absurd h
      go (some r) q h = record { terms = r.0; end = r.1; kind = e; is = block_is nv l rows i good e ∙ ap (around (block i)) q; inner = q }

  -- Where a block must stand, one does.
  branch_rows_law : IsTree (block_at (tree_at nv l rows) rows i) → BlockRows nv l rows i
  branch_rows_law h =
      let a : eqb (field_at rows i 0) 11 ≡ true = only_if_law (eqb (field_at rows i 0) 11) (around branch (tree_at nv l rows i)) h in
      block_rows_law (around_inner branch (tree_at nv l rows i) (rw a at h)) (eqb-true _ _ a)

  branch_is : (b : BlockRows nv l rows i) → block_at (tree_at nv l rows) rows i ≡ some ((i, b.terms), b.end)
  unfolding branch
  branch_is b = rw (b.is, b.kind)

-- Two blocks one after the other: each of them.
then_first : (d : RowTree (ℕ × Terms)) (rest : ℕ → RowTree (ℕ × Terms)) → IsTree (then_block d rest) → IsTree d
then_first none rest h = absurd h
then_first (some r) rest h = tt

then_second : (d : RowTree (ℕ × Terms)) (rest : ℕ → RowTree (ℕ × Terms)) (r : (ℕ × Terms) × ℕ) → IsTree (then_block d rest) → d ≡ some r → IsTree (rest r.1)
then_second d rest r h e = around_inner (λ b. (r.0, b)) (rest r.1) (rw e at h)

module _ (nv l : ℕ) (rows : List ℕ) (i : ℕ) (good : IsTree (tree_at nv l rows i)) (e : field_at rows i 0 ≡ 12) where
  abbrev branch_at : ℕ → RowTree (ℕ × Terms)
  branch_at = block_at (tree_at nv (l - 1) rows) rows

  abbrev blocks : RowTree ((ℕ × Terms) × (ℕ × Terms))
  blocks = then_block (branch_at (i + 1)) branch_at

  choice_kind : tree_at nv l rows i ≡ only_if (ltb (field_at rows i 1) nv) (around (choice_of i (place_at rows i 1)) blocks)
  unfolding kind_at newest kind_of among kinds byte_of
  choice_kind = tree_kind nv l rows i (some k_choice) good (rw e)

  choice_in : ltb (field_at rows i 1) nv ≡ true
  choice_in = only_if_law (ltb (field_at rows i 1) nv) (around (choice_of i (place_at rows i 1)) blocks) (rw choice_kind at good)

  choice_is : tree_at nv l rows i ≡ around (choice_of i (place_at rows i 1)) blocks
  choice_is = choice_kind ∙ rw choice_in

  both_are : (a : BlockRows nv (l - 1) rows (i + 1)) (b : BlockRows nv (l - 1) rows a.end) → blocks ≡ some (((i + 1, a.terms), (a.end, b.terms)), b.end)
  both_are a b = rw (branch_is nv (l - 1) rows (i + 1) a, branch_is nv (l - 1) rows a.end b)

  with_blocks : (a : BlockRows nv (l - 1) rows (i + 1)) (b : BlockRows nv (l - 1) rows a.end) → ChoiceRows nv l rows i
  with_blocks a b = record { root = ltb-true _ _ choice_in; first = a; second = b; is = choice_is ∙ ap (around (choice_of i (place_at rows i 1))) (both_are a b) }

  pub choice_rows : ChoiceRows nv l rows i
  choice_rows =
      let h : IsTree blocks = around_inner (choice_of i (place_at rows i 1)) blocks (rw choice_is at good) in
      let a = branch_rows_law nv (l - 1) rows (i + 1) (then_first (branch_at (i + 1)) branch_at h) in
      with_blocks a (branch_rows_law nv (l - 1) rows a.end (then_second (branch_at (i + 1)) branch_at _ h (branch_is nv (l - 1) rows (i + 1) a)))

-- ---- the rows that a term takes

module _ (rows : List ℕ) where
  -- What stands from row i on takes as many rows as `count` says, and all of them are there.
  unfoldable Spans : {A : Type 0} → (A → ℕ) → ℕ → RowTree A → Type 0
  Spans count i none = Unit {0}
  Spans count i (some r) = (r.1 ≡ i + count r.0) × (5 * r.1 ≤ length rows)

  module _ {A : Type 0} (count : A → ℕ) (i : ℕ) where
    none_spans : Spans count i none
    unfolding Spans
    none_spans = tt

    only_spans : (b : Bool) (d : RowTree A) → Spans count i d → Spans count i (only_if b d)
    unfolding Spans
    only_spans true d h = h
    only_spans false d h = tt

    if_spans : (d : RowTree A) → (IsTree d → Spans count i d) → Spans count i d
    unfolding Spans
    if_spans none h = tt
    if_spans (some r) h = h tt

  -- k rows more than what is inside, which stands from row j on.
  around_spans : {A B : Type 0} (f : A → B) (inside : A → ℕ) (whole : B → ℕ) (i j k : ℕ) → j ≡ i + k → ((a : A) → whole (f a) ≡ k + inside a) → (d : RowTree A) → Spans inside j d → Spans whole i (around f d)
  unfolding Spans
  around_spans f inside whole i j k e q none h = tt
  around_spans f inside whole i j k e q (some r) h = let a = q r.0 in let b = h.0 in (omega arith, h.1)

  before_spans : (i : ℕ) (d : RowTree Term) (rest : ℕ → RowTree Terms) → Spans size i d → ((j : ℕ) → Spans sizes j (rest j)) → Spans sizes i (before d rest)
  unfolding size Spans
  before_spans i none rest h k = tt
  before_spans i (some r) rest h k = around_spans (more r.0) sizes sizes i r.1 (size r.0) h.0 (λ ts. refl) (rest r.1) (k r.1)

  module _ (f : ℕ → RowTree Term) (all : (j : ℕ) → Spans size j (f j)) where
    several_spans : (n i : ℕ) → Spans sizes i (several_at f n i)
    unfolding several_at size
    several_spans zero i = around_spans last size sizes i i 0 (omega arith) (λ t. omega arith) (f i) (all i)
    several_spans (suc n) i = before_spans i (f i) (several_at f n) (all i) (several_spans n)

    terms_spans : (n i : ℕ) → Spans sizes i (terms_at f n i)
    unfolding terms_at Spans
    terms_spans zero i = tt
    terms_spans (suc n) i = several_spans n i

  -- The rows of a block with these terms, and of two blocks.
  abbrev of_block : ℕ × Terms → ℕ
  of_block b = suc (sizes b.1)

  then_spans : (i : ℕ) (d : RowTree (ℕ × Terms)) (rest : ℕ → RowTree (ℕ × Terms)) → Spans of_block i d → ((j : ℕ) → Spans of_block j (rest j)) → Spans (λ b. of_block b.0 + of_block b.1) i (then_block d rest)
  unfolding Spans
  then_spans i none rest h k = tt
  then_spans i (some r) rest h k = around_spans (λ b. (r.0, b)) of_block (λ b. of_block b.0 + of_block b.1) i r.1 (of_block r.0) h.0 (λ b. refl) (rest r.1) (k r.1)

  module _ (nv l : ℕ) (all : (j : ℕ) → Spans size j (tree_at nv l rows j)) where
    branch_spans : (i : ℕ) → Spans of_block i (block_at (tree_at nv l rows) rows i)
    unfolding size Spans
    branch_spans i = if_spans of_block i (block_at (tree_at nv l rows) rows i) (λ h.
        let b = branch_rows_law nv l rows i h in
        let a = all i in
        rw (branch_is nv l rows i b) (rw b.is at a))

    module _ (i : ℕ) (room : 5 * i + 5 ≤ length rows) where
      leaf_spans : (b : Bool) (t : Term) → size t ≡ 1 → Spans size i (only_if b (some (t, i + 1)))
      unfolding Spans
      leaf_spans b t e = only_spans size i b (some (t, i + 1)) (omega arith, omega arith)

      kind_spans : (o : Option Kind) → Spans size i (kind_at o nv (tree_at nv l rows) rows i)
      unfolding kind_at size
      kind_spans none = none_spans size i
      kind_spans (some k_number) = leaf_spans true (number i (field_at rows i 1)) refl
      kind_spans (some k_reading) = leaf_spans (ltb (field_at rows i 1) 8) _ refl
      kind_spans (some k_copy) = leaf_spans (ltb (field_at rows i 1) nv) _ refl
      kind_spans (some k_move) = leaf_spans (ltb (field_at rows i 1) nv) _ refl
      kind_spans (some k_shared) = leaf_spans (ltb (field_at rows i 1) nv) _ refl
      kind_spans (some k_exclusive) = leaf_spans (ltb (field_at rows i 1) nv) _ refl
      kind_spans (some k_box) = around_spans (box i) size size i (i + 1) 1 refl (λ t. omega arith) _ (all (i + 1))
      kind_spans (some k_let) = only_spans size i (ltb (field_at rows i 1) nv) _ (around_spans (declare i (field_at rows i 1)) size size i (i + 1) 1 refl (λ t. omega arith) _ (all (i + 1)))
      kind_spans (some k_assign) = only_spans size i (ltb (field_at rows i 1) nv) _ (around_spans (assign i (place_at rows i 1)) size size i (i + 1) 1 refl (λ t. omega arith) _ (all (i + 1)))
      kind_spans (some k_below) = only_spans size i (ltb (field_at rows i 1) nv) _ (leaf_spans (ltb (field_at rows i 3) nv) _ refl)
      kind_spans (some k_sum) = only_spans size i (ltb (field_at rows i 1) nv) _ (leaf_spans (ltb (field_at rows i 3) nv) _ refl)
      kind_spans (some k_block) = around_spans (block i) sizes size i (i + 1) 1 refl (λ ts. omega arith) _ (terms_spans (tree_at nv l rows) all (field_at rows i 1) (i + 1))
      kind_spans (some k_choice) =
          only_spans size i (ltb (field_at rows i 1) nv) _
          (around_spans (choice_of i (place_at rows i 1)) (λ b. of_block b.0 + of_block b.1) size i (i + 1) 1 refl (λ b. omega arith) _ (then_spans (i + 1) (block_at (tree_at nv l rows) rows (i + 1)) (block_at (tree_at nv l rows) rows) (branch_spans (i + 1)) branch_spans))

  tree_spans : (nv l i : ℕ) → Spans size i (tree_at nv l rows i)
  unfolding tree_at Spans
  tree_spans nv zero i = tt
  tree_spans nv (suc l) i = room (tree_spans nv l) (leb (5 * i + 5) (length rows)) refl
    where
      room : ((j : ℕ) → Spans size j (tree_at nv l rows j)) → (b : Bool) → leb (5 * i + 5) (length rows) ≡ b → Spans size i (only_if b (kind_at (kind_of newest (field_at rows i 0)) nv (tree_at nv l rows) rows i))
      room all true e = kind_spans nv l all i (leb-true _ _ e) (kind_of newest (field_at rows i 0))
      room all false e = tt

  -- A term at row i: the row after it is as many rows on as it has terms, and they are all there.
  pub tree_rows : (nv l i : ℕ) (t : Term) (j : ℕ) → tree_at nv l rows i ≡ some (t, j) → (j ≡ i + size t) × (5 * j ≤ length rows)
  unfolding Spans
  tree_rows nv l i t j e = rw e at (tree_spans nv l i)
