-- What the terms of a tree in rows name: as they finish they name what its rows name (LANGUAGE 3.33), and no row names another variable than
-- one of the set, since each is tested for it.
use Prim.Native.Nat.{ℕ, zero, suc, ◌+◌, ◌*◌, ◌-◌, ◌≤◌, ◌<◌}
use native.Mathlib.Omega.{arith}
use native.Mathlib.Numerals.{add-one}
use mathlib.Core.Path.{◌≡◌, refl, sym, ap, ap₂, ◌∙◌, subst}
use mathlib.Core.Bool.{Bool, true, false, false≢true}
use mathlib.Core.Option.{Option, none, some}
use mathlib.Core.List.{List, [], ◌∷◌, ◌++◌, append_assoc}
use lib.Dec.{leb, ltb, eqb}
use lib.ListN.{length}
use borrow.Author.Tests.{ltb-true, eqb-true}
use Rattle.syntax.specs.Result.{pick}
use Rattle.syntax.specs.Script.{Term, reading, copy, move, borrow_shared, borrow_exclusive, box, declare, assign, below, block, sum, Terms, last, more}
use Rattle.syntax.specs.Kinds.{Kind, k_number, k_reading, k_copy, k_move, k_shared, k_exclusive, k_box, k_let, k_assign, k_below, k_block, k_choice, k_sum, newest, kind_of}
use Rattle.syntax.specs.Reader.{branch}
use Rattle.syntax.specs.RowParts.{field_at}
use Rattle.syntax.specs.RowTrees.{place_at, RowTree, IsTree, only_if, around, before, several_at, terms_at, block_at, then_block, choice_of, kind_at, tree_at}
use Rattle.syntax.proofs.RowTreeLaws.{only_if_law, around_inner}
use Rattle.syntax.proofs.ChoiceRows.{BlockRows, block_rows_law}
use Rattle.statics.specs.Uses.{Unfinished, naming, finishing, finishing_all, names, named_later}
use Rattle.uses.specs.RowUses.{names_of, row_names, namings}
use Rattle.statics.proofs.Finishing.{named_either}
use Rattle.uses.proofs.EitherLaws.{swapped, one_holds}
use Rattle.uses.proofs.RowUseLaws.{first_named, first_later, first_row, one_names}

-- ---- rows one after the other

-- The rows after others name what they name.
namings_append : (rows : List ℕ) (i m n : ℕ) → namings rows i (m + n) ≡ namings rows i m ++ namings rows (i + m) n
unfolding namings
namings_append rows i zero n =
    let e : 0 + n ≡ n = omega arith in
    let f : i ≡ i + 0 = omega arith in
    ap (λ (k : ℕ). namings rows i k) e ∙ ap (λ (k : ℕ). namings rows k n) f
namings_append rows i (suc m) n =
    let e : suc m + n ≡ suc (m + n) = omega arith in
    let f : suc i + m ≡ i + suc m = omega arith in
    ap (λ (k : ℕ). namings rows i k) e ∙ ap (λ (ns : Unfinished). row_names rows i ∷ ns) (namings_append rows (suc i) m n ∙ ap (λ (k : ℕ). namings rows (suc i) m ++ namings rows k n) f)

-- What one of the rows names is among what they name.
row_among : (rows : List ℕ) (i n r x : ℕ) → i ≤ r → r < i + n → names (row_names rows r) x ≡ true → named_later (namings rows i n) x ≡ true
row_among rows i n r x a b h =
    let m = r - i in
    let k = n - suc m in
    let e : n ≡ m + suc k = omega arith in
    let w : i + m ≡ r = omega arith in
    ap (λ (c : ℕ). named_later (namings rows i c) x) e
    ∙ ap (λ (ns : Unfinished). named_later ns x) (namings_append rows i m (suc k))
    ∙ named_either (namings rows i m) (namings rows (i + m) (suc k)) x
    ∙ ap (λ (b : Bool). pick (named_later (namings rows i m) x) true b) (first_row rows (i + m) k x ∙ rw (w, h))
    ∙ swapped (named_later (namings rows i m) x) true

-- ---- rows and the terms in them

-- A term that names xs finishes after the others.
named_last : (ns : Unfinished) (xs : List ℕ) (x : ℕ) → named_later (ns ++ naming xs) x ≡ named_later (xs ∷ ns) x
named_last ns xs x =
    named_either ns (naming xs) x
    ∙ ap (λ (b : Bool). pick (named_later ns x) true b) (one_names xs x)
    ∙ swapped (named_later ns x) (names xs x)
    ∙ sym (first_later xs ns x)

module _ (nv : ℕ) where
  abbrev Below : List ℕ → Type 0
  Below xs = (x : ℕ) → names xs x ≡ true → x < nv

  pub none_below : Below []
  unfolding names
  none_below x h = absurd (false≢true h)

  and_below : (y : ℕ) (ys : List ℕ) → ltb y nv ≡ true → Below ys → Below (y ∷ ys)
  and_below y ys l k x h = one_holds (eqb y x) (names ys x) (sym (first_named y ys x) ∙ h) (λ e. subst (λ (z : ℕ). z < nv) (eqb-true y x e) (ltb-true y nv l)) (k x)

  -- All that these terms name is below nv.
  abbrev pub AllBelow : Unfinished → Type 0
  AllBelow ns = (x : ℕ) → named_later ns x ≡ true → x < nv

  alone_below : (xs : List ℕ) → Below xs → AllBelow (naming xs)
  alone_below xs b x h = b x (sym (one_names xs x) ∙ h)

  both_below : (ms ns : Unfinished) → AllBelow ms → AllBelow ns → AllBelow (ms ++ ns)
  both_below ms ns a b x h = one_holds (named_later ms x) (named_later ns x) (sym (named_either ms ns x) ∙ h) (a x) (b x)

-- A block in its row, as a block of a choice.
pub branch_is : (nv l : ℕ) (rows : List ℕ) (j : ℕ) (b : BlockRows nv l rows j) → block_at (tree_at nv l rows) rows j ≡ some ((j, b.terms), b.end)
unfolding branch
branch_is nv l rows j b = rw (b.is, b.kind)

module _ (nv : ℕ) (rows : List ℕ) where
  -- Row i names xs, all below nv.
  record Row (i : ℕ) (xs : List ℕ) : Type 0 where
    names_these : row_names rows i ≡ xs
    under : Below nv xs

  -- The rows from i up to j, one at least, name what the terms ns do, all below nv.
  record Rows (ns : Unfinished) (i j : ℕ) : Type 0 where
    count : ℕ
    ends : j ≡ i + count
    one : 0 < count
    same : (x : ℕ) → named_later ns x ≡ named_later (namings rows i count) x
    under : AllBelow nv ns

  row_alone : (i : ℕ) (xs : List ℕ) → Row i xs → Rows (naming xs) i (i + 1)
  unfolding namings
  row_alone i xs R = record {
    count = 1;
    ends = refl;
    one = omega arith;
    same = λ x. ap (λ (ys : List ℕ). named_later (naming ys) x) (sym R.names_these);
    under = alone_below nv xs R.under;
  }

  -- A term around those in the rows after its own: it finishes last.
  row_around : (i : ℕ) (xs : List ℕ) → Row i xs → (ns : Unfinished) (j : ℕ) → Rows ns (i + 1) j → Rows (ns ++ naming xs) i j
  unfolding namings named_later
  row_around i xs R ns j S = record {
    count = suc S.count;
    ends = omega (arith, S.ends);
    one = omega arith;
    same = λ x. named_last ns xs x
        ∙ ap₂ (λ (ys : List ℕ) (b : Bool). elim (names ys x) [ true ↦ true | false ↦ b ]) (sym R.names_these) (S.same x ∙ ap (λ (k : ℕ). named_later (namings rows k S.count) x) (add-one i));
    under = both_below nv ns (naming xs) S.under (alone_below nv xs R.under);
  }

  -- Rows after rows.
  rows_then : (ns ms : Unfinished) (i j k : ℕ) → Rows ns i j → Rows ms j k → Rows (ns ++ ms) i k
  rows_then ns ms i j k R S = record {
    count = R.count + S.count;
    ends = omega (arith, R.ends, S.ends);
    one = omega (arith, R.one);
    same = λ x. named_either ns ms x
        ∙ ap₂ (λ (b c : Bool). pick b true c) (R.same x) (S.same x ∙ ap (λ (h : ℕ). named_later (namings rows h S.count) x) R.ends)
        ∙ sym (named_either (namings rows i R.count) (namings rows (i + R.count) S.count) x)
        ∙ ap (λ (l : Unfinished). named_later l x) (sym (namings_append rows i R.count S.count));
    under = both_below nv ns ms R.under S.under;
  }

  -- ---- trees

  -- What stands from row i on, if anything, names what its rows do; `terms` gives its terms as they finish.
  unfoldable Names : {A : Type 0} → (A → Unfinished) → ℕ → RowTree A → Type 0
  Names terms i none = Unit {0}
  Names terms i (some r) = Rows (terms r.0) i r.1

  only_names : {A : Type 0} (terms : A → Unfinished) (i : ℕ) (b : Bool) (d : RowTree A) → (b ≡ true → Names terms i d) → Names terms i (only_if b d)
  unfolding Names
  only_names terms i true d h = h refl
  only_names terms i false d h = tt

  if_names : {A : Type 0} (terms : A → Unfinished) (i : ℕ) (d : RowTree A) → (IsTree d → Names terms i d) → Names terms i d
  unfolding Names
  if_names terms i none h = tt
  if_names terms i (some r) h = h tt

  around_names : {A B : Type 0} (f : A → B) (inside : A → Unfinished) (whole : B → Unfinished) (i j : ℕ) → ((a : A) (k : ℕ) → Rows (inside a) j k → Rows (whole (f a)) i k)
      → (d : RowTree A) → Names inside j d → Names whole i (around f d)
  unfolding Names
  around_names f inside whole i j h none k = tt
  around_names f inside whole i j h (some r) k = h r.0 r.1 k

  -- f gives the inner terms.
  module _ (f : ℕ → RowTree Term) (inner : (j : ℕ) → Names finishing j (f j)) where
    several_in : (n i : ℕ) → Names finishing_all i (several_at f n i)
    unfolding several_at finishing Names
    several_in zero i = around_names last finishing finishing_all i i (λ t k R. R) (f i) (inner i)
    several_in (suc n) i = go (f i) (inner i) (several_in n)
      where
        go : (d : RowTree Term) → Names finishing i d → ((j : ℕ) → Names finishing_all j (several_at f n j)) → Names finishing_all i (before d (several_at f n))
        go none h k = tt
        go (some r) h k = around_names (more r.0) finishing_all finishing_all i r.1 (λ ts j S. rows_then (finishing r.0) (finishing_all ts) i r.1 j h S) (several_at f n r.1) (k r.1)

    terms_in_law : (n i : ℕ) → Names finishing_all i (terms_at f n i)
    unfolding terms_at Names
    terms_in_law zero i = tt
    terms_in_law (suc n) i = several_in n i

  -- A block of a choice, and two of them.
  abbrev of_block : ℕ × Terms → Unfinished
  of_block b = finishing_all b.1 ++ naming []

  abbrev of_blocks : (ℕ × Terms) × (ℕ × Terms) → Unfinished
  of_blocks b = of_block b.0 ++ of_block b.1

  module _ (l : ℕ) (inner : (j : ℕ) → Names finishing j (tree_at nv l rows j)) where
    abbrev f : ℕ → RowTree Term
    f = tree_at nv l rows

    block_here : (i : ℕ) → IsTree (block_at f rows i) → BlockRows nv l rows i
    block_here i h =
        let a : eqb (field_at rows i 0) 11 ≡ true = only_if_law (eqb (field_at rows i 0) 11) (around branch (f i)) h in
        block_rows_law nv l rows i (around_inner branch (f i) (rw a at h)) (eqb-true _ _ a)

    block_with : (i : ℕ) → BlockRows nv l rows i → Names of_block i (block_at f rows i)
    unfolding finishing Names
    block_with i b = rw (branch_is nv l rows i b) (rw b.is at (inner i))

    block_in : (i : ℕ) → Names of_block i (block_at f rows i)
    block_in i = if_names of_block i (block_at f rows i) (λ h. block_with i (block_here i h))

    blocks_in : (i : ℕ) (d : RowTree (ℕ × Terms)) → Names of_block i d → Names of_blocks i (then_block d (block_at f rows))
    unfolding Names
    blocks_in i none h = tt
    blocks_in i (some r) h = around_names (λ b. (r.0, b)) of_block of_blocks i r.1 (λ b j S. rows_then (of_block r.0) (of_block b) i r.1 j h S) (block_at f rows r.1) (block_in r.1)

    -- The term of a kind, in row i.
    module _ (i : ℕ) where
      abbrev x : ℕ
      x = field_at rows i 1

      abbrev y : ℕ
      y = field_at rows i 3

      none_of : (o : Option Kind) → kind_of newest (field_at rows i 0) ≡ o → names_of o x y ≡ [] → Row i []
      none_of o e q = record { names_these = ap (λ (k : Option Kind). names_of k x y) e ∙ q; under = none_below nv }

      one_of : (o : Option Kind) → kind_of newest (field_at rows i 0) ≡ o → names_of o x y ≡ x ∷ [] → ltb x nv ≡ true → Row i (x ∷ [])
      one_of o e q h = record { names_these = ap (λ (k : Option Kind). names_of k x y) e ∙ q; under = and_below nv x [] h (none_below nv) }

      two_of : (o : Option Kind) → kind_of newest (field_at rows i 0) ≡ o → names_of o x y ≡ x ∷ y ∷ [] → ltb x nv ≡ true → ltb y nv ≡ true → Row i (x ∷ y ∷ [])
      two_of o e q h k = record { names_these = ap (λ (k : Option Kind). names_of k x y) e ∙ q; under = and_below nv x (y ∷ []) h (and_below nv y [] k (none_below nv)) }

      -- A term without terms in it, which names its first place's root, or two.
      leaf_in : (o : Option Kind) → kind_of newest (field_at rows i 0) ≡ o → names_of o x y ≡ x ∷ [] → (t : Term) → finishing t ≡ naming (x ∷ []) → Names finishing i (only_if (ltb x nv) (some (t, i + 1)))
      unfolding Names
      leaf_in o e q t z = only_names finishing i (ltb x nv) (some (t, i + 1)) (λ b. rw z (row_alone i (x ∷ []) (one_of o e q b)))

      pair_in : (o : Option Kind) → kind_of newest (field_at rows i 0) ≡ o → names_of o x y ≡ x ∷ y ∷ [] → (t : Term) → finishing t ≡ naming (x ∷ y ∷ [])
          → Names finishing i (only_if (ltb x nv) (only_if (ltb y nv) (some (t, i + 1))))
      unfolding Names
      pair_in o e q t z = only_names finishing i (ltb x nv) (only_if (ltb y nv) (some (t, i + 1))) (λ b. only_names finishing i (ltb y nv) (some (t, i + 1)) (λ c. rw z (row_alone i (x ∷ y ∷ []) (two_of o e q b c))))

      kind_in_law : (o : Option Kind) → kind_of newest (field_at rows i 0) ≡ o → Names finishing i (kind_at o nv f rows i)
      unfolding kind_at Names finishing names_of
      kind_in_law none e = tt
      kind_in_law (some k_number) e = row_alone i [] (none_of (some k_number) e refl)
      kind_in_law (some k_reading) e = only_names finishing i (ltb x 8) (some (reading i x, i + 1)) (λ b. row_alone i [] (none_of (some k_reading) e refl))
      kind_in_law (some k_copy) e = leaf_in (some k_copy) e refl (copy i (place_at rows i 1)) refl
      kind_in_law (some k_move) e = leaf_in (some k_move) e refl (move i (place_at rows i 1)) refl
      kind_in_law (some k_shared) e = leaf_in (some k_shared) e refl (borrow_shared i (place_at rows i 1)) refl
      kind_in_law (some k_exclusive) e = leaf_in (some k_exclusive) e refl (borrow_exclusive i (place_at rows i 1)) refl
      kind_in_law (some k_box) e = around_names (box i) finishing finishing i (i + 1) (λ t k R. row_around i [] (none_of (some k_box) e refl) (finishing t) k R) (f (i + 1)) (inner (i + 1))
      kind_in_law (some k_let) e = only_names finishing i (ltb x nv) (around (declare i x) (f (i + 1))) (λ b.
          around_names (declare i x) finishing finishing i (i + 1) (λ t k R. row_around i (x ∷ []) (one_of (some k_let) e refl b) (finishing t) k R) (f (i + 1)) (inner (i + 1)))
      kind_in_law (some k_assign) e = only_names finishing i (ltb x nv) (around (assign i (place_at rows i 1)) (f (i + 1))) (λ b.
          around_names (assign i (place_at rows i 1)) finishing finishing i (i + 1) (λ t k R. row_around i (x ∷ []) (one_of (some k_assign) e refl b) (finishing t) k R) (f (i + 1)) (inner (i + 1)))
      kind_in_law (some k_below) e = pair_in (some k_below) e refl (below i (place_at rows i 1) (place_at rows i 3)) refl
      kind_in_law (some k_block) e =
          around_names (block i) finishing_all finishing i (i + 1) (λ ts k R. row_around i [] (none_of (some k_block) e refl) (finishing_all ts) k R) (terms_at f x (i + 1)) (terms_in_law f inner x (i + 1))
      kind_in_law (some k_choice) e = only_names finishing i (ltb x nv) (around (choice_of i (place_at rows i 1)) (then_block (block_at f rows (i + 1)) (block_at f rows))) (λ b.
          around_names (choice_of i (place_at rows i 1)) of_blocks finishing i (i + 1)
          (λ c k R. subst (λ (ns : Unfinished). Rows ns i k) (append_assoc (of_block c.0) (of_block c.1) (naming (x ∷ []))) (row_around i (x ∷ []) (one_of (some k_choice) e refl b) (of_blocks c) k R))
          (then_block (block_at f rows (i + 1)) (block_at f rows)) (blocks_in (i + 1) (block_at f rows (i + 1)) (block_in (i + 1))))
      kind_in_law (some k_sum) e = pair_in (some k_sum) e refl (sum i (place_at rows i 1) (place_at rows i 3)) refl

  tree_in : (l i : ℕ) → Names finishing i (tree_at nv l rows i)
  unfolding tree_at Names
  tree_in zero i = tt
  tree_in (suc l) i = only_names finishing i (leb (5 * i + 5) (length rows)) _ (λ b. kind_in_law l (tree_in l) i (kind_of newest (field_at rows i 0)) refl)

  -- ---- what is known of a tree in rows

  rows_of : (ns : Unfinished) (i j : ℕ) → Rows ns i j → (i < j) × ((x : ℕ) → named_later ns x ≡ named_later (namings rows i (j - i)) x)
  rows_of ns i j R =
      let e : R.count ≡ j - i = omega (arith, R.ends) in
      (omega (arith, R.ends, R.one), λ x. R.same x ∙ ap (λ (n : ℕ). named_later (namings rows i n) x) e)

  stands : (l i : ℕ) (t : Term) (j : ℕ) → tree_at nv l rows i ≡ some (t, j) → Rows (finishing t) i j
  unfolding Names
  stands l i t j e = rw e at (tree_in l i)

  all_stand : (l n i : ℕ) (ts : Terms) (j : ℕ) → several_at (tree_at nv l rows) n i ≡ some (ts, j) → Rows (finishing_all ts) i j
  unfolding Names
  all_stand l n i ts j e = rw e at (several_in (tree_at nv l rows) (tree_in l) n i)

-- A term from row i up to row j, as it finishes, names what those rows do.
pub tree_names : (nv l : ℕ) (rows : List ℕ) (i : ℕ) (t : Term) (j : ℕ) → tree_at nv l rows i ≡ some (t, j)
    → (i < j) × ((x : ℕ) → named_later (finishing t) x ≡ named_later (namings rows i (j - i)) x)
tree_names nv l rows i t j e = rows_of nv rows (finishing t) i j (stands nv rows l i t j e)

-- So do several one after the other.
pub several_names : (nv l : ℕ) (rows : List ℕ) (n i : ℕ) (ts : Terms) (j : ℕ) → several_at (tree_at nv l rows) n i ≡ some (ts, j)
    → (i < j) × ((x : ℕ) → named_later (finishing_all ts) x ≡ named_later (namings rows i (j - i)) x)
several_names nv l rows n i ts j e = rows_of nv rows (finishing_all ts) i j (all_stand nv rows l n i ts j e)

-- What a term in rows names is below nv, and so is what its rows name.
pub tree_below : (nv l : ℕ) (rows : List ℕ) (i : ℕ) (t : Term) (j : ℕ) → tree_at nv l rows i ≡ some (t, j) → AllBelow nv (finishing t)
tree_below nv l rows i t j e = (stands nv rows l i t j e).under

pub rows_below : (nv l : ℕ) (rows : List ℕ) (i : ℕ) (t : Term) (j : ℕ) → tree_at nv l rows i ≡ some (t, j) → (r x : ℕ) → i ≤ r → r < j → names (row_names rows r) x ≡ true → x < nv
rows_below nv l rows i t j e r x a b h =
    let k = tree_names nv l rows i t j e in
    tree_below nv l rows i t j e x (k.1 x ∙ row_among rows i (j - i) r x a (omega arith) h)

pub row_below : (nv l : ℕ) (rows : List ℕ) (i : ℕ) → IsTree (tree_at nv l rows i) → (x : ℕ) → names (row_names rows i) x ≡ true → x < nv
row_below nv l rows i good x h = go (tree_at nv l rows i) refl good
  where
    go : (d : RowTree Term) → tree_at nv l rows i ≡ d → IsTree d → x < nv
    go none e g = absurd g
    go (some r) e g = rows_below nv l rows i r.0 r.1 e i x (omega arith) (tree_names nv l rows i r.0 r.1 e).0 h
