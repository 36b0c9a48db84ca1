-- The last uses, as they are found row by row. Assumes nothing.
use Prim.Native.Nat.{ℕ, suc, ◌<◌, ◌≤◌}
use native.Mathlib.Omega.{arith}
use native.Mathlib.Decide.{ℕ_discrete, dec_lt}
use mathlib.Core.Path.{◌≡◌, refl, sym, ap, ◌∙◌}
use mathlib.Core.Bool.{Bool, true, false, false≢true}
use mathlib.Core.Option.{some}
use mathlib.Core.List.{List, [], ◌∷◌}
use lib.Dec.{eqb}
use lib.ListN.{length, get_or, set, length-set}
use lib.Seq.{get_or-set_same, get_or-set_other}
use borrow.Author.Tests.{eq-eqb, ne_eqb}
use Rattle.syntax.specs.Result.{pick}
use Rattle.statics.specs.Uses.{names}
use Rattle.syntax.specs.declared.kinds.Kind.{Kind}
use Rattle.syntax.specs.KindNumbers.{as_kind}
use Rattle.uses.specs.RowUses.{names_of, row_names, UsesFor, NamesBelow}
use Rattle.uses.proofs.EitherLaws.{swapped}
use Rattle.uses.proofs.RowUseLaws.{first_named, named_one}
use Rattle.uses.proofs.KindNames.{NamesFirst, NamesBoth, names_first, names_both}

-- ---- what a row names

first_in : (x : ℕ) (ys : List ℕ) → names (x ∷ ys) x ≡ true
first_in x ys = rw (first_named x ys x, eq-eqb x x refl)

last_named : (x y z : ℕ) → names (x ∷ y ∷ []) z ≡ pick (eqb y z) true (names (x ∷ []) z)
last_named x y z = rw (first_named x (y ∷ []) z, named_one y z, named_one x z) (swapped (eqb x z) (eqb y z))

pub first_of : (k : Kind) (x y : ℕ) → NamesFirst k → names (names_of (some (as_kind k)) x y) x ≡ true
first_of k x y h = rw (names_first k x y h) (first_in x [])

pub both_of : (k : Kind) (x y : ℕ) → NamesBoth k → (names (names_of (some (as_kind k)) x y) x ≡ true) × (names (names_of (some (as_kind k)) x y) y ≡ true)
both_of k x y h = (rw (names_both k x y h) (first_in x (y ∷ [])), rw (names_both k x y h, last_named x y y, eq-eqb y y refl))

-- ---- marks

-- Row i is marked as the last for those of the list.
pub record Marked (i : ℕ) (ys uses uses' : List ℕ) : Type 0 where
  pub long : length uses' ≡ length uses
  pub marks : (x : ℕ) → get_or uses' x 0 ≡ pick (names ys x) (suc i) (get_or uses x 0)

none_marked : (i : ℕ) (uses : List ℕ) → Marked i [] uses uses
unfolding names
none_marked i uses = record { long = refl; marks = λ x. refl }

-- One more is marked.
more_marked : (i x v : ℕ) → v ≡ suc i → (ys zs : List ℕ) → ((z : ℕ) → names zs z ≡ pick (eqb x z) true (names ys z)) → (uses uses' : List ℕ) → x < length uses → Marked i ys uses uses' → Marked i zs uses (set uses' x v)
more_marked i x v ev ys zs e uses uses' l M = record { long = length-set uses' x v ∙ M.long; marks = λ z. rw (e z) (go z (ℕ_discrete x z)) }
  where
    go : (z : ℕ) → Dec (x ≡ z) → get_or (set uses' x v) z 0 ≡ pick (pick (eqb x z) true (names ys z)) (suc i) (get_or uses z 0)
    go z (yes q) = rw (eq-eqb x z q, ← q) (get_or-set_same uses' x v 0 (omega (arith, l, M.long)) ∙ ev)
    go z (no q) = rw (ne_eqb x z q) (get_or-set_other uses' x z v 0 (λ h. q (sym h)) ∙ M.marks z)

module _ (nv : ℕ) (rows : List ℕ) where
  -- ---- row by row

  -- The last uses among the rows before i.
  pub record UsedBefore (i : ℕ) (uses : List ℕ) : Type 0 where
    pub long : length uses ≡ nv
    pub above : (x r : ℕ) → x < nv → r < i → names (row_names rows r) x ≡ true → r < get_or uses x 0
    pub names_it : (x r : ℕ) → x < nv → get_or uses x 0 ≡ suc r → (r < i) × (names (row_names rows r) x ≡ true)

  pub none_used : (uses : List ℕ) → length uses ≡ nv → ((x : ℕ) → get_or uses x 0 ≡ 0) → UsedBefore 0 uses
  none_used uses e z = record {
    long = e;
    above = λ x r l m k. absurd (omega arith);
    names_it = λ x r l q. absurd (omega (arith, z x, q));
  }

  pub used_next : (i j : ℕ) → j ≡ suc i → (uses uses' : List ℕ) → UsedBefore i uses → Marked i (row_names rows i) uses uses' → UsedBefore j uses'
  used_next i j ej uses uses' U M = record {
    long = M.long ∙ U.long;
    above = λ x r l m k. above x r l m k (names (row_names rows i) x) refl (ℕ_discrete r i);
    names_it = λ x r l q. told x r l q (names (row_names rows i) x) refl;
  }
    where
      above : (x r : ℕ) → x < nv → r < j → names (row_names rows r) x ≡ true → (b : Bool) → names (row_names rows i) x ≡ b → Dec (r ≡ i) → r < get_or uses' x 0
      above x r l m k true e d = let q : get_or uses' x 0 ≡ suc i = M.marks x ∙ ap (λ (b : Bool). pick b (suc i) (get_or uses x 0)) e in omega arith
      above x r l m k false e (yes q) = absurd (false≢true (sym e ∙ ap (λ (n : ℕ). names (row_names rows n) x) (sym q) ∙ k))
      above x r l m k false e (no q) =
          let s : get_or uses' x 0 ≡ get_or uses x 0 = M.marks x ∙ ap (λ (b : Bool). pick b (suc i) (get_or uses x 0)) e in
          omega (arith, s, U.above x r l (omega arith) k)

      told : (x r : ℕ) → x < nv → get_or uses' x 0 ≡ suc r → (b : Bool) → names (row_names rows i) x ≡ b → (r < j) × (names (row_names rows r) x ≡ true)
      told x r l q true e =
          let s : get_or uses' x 0 ≡ suc i = M.marks x ∙ ap (λ (b : Bool). pick b (suc i) (get_or uses x 0)) e in
          let t : i ≡ r = omega arith in
          (omega arith, ap (λ (n : ℕ). names (row_names rows n) x) (sym t) ∙ e)
      told x r l q false e =
          let s : get_or uses x 0 ≡ suc r = sym (M.marks x ∙ ap (λ (b : Bool). pick b (suc i) (get_or uses x 0)) e) ∙ q in
          let w = U.names_it x r l s in
          (omega (arith, w.0), w.1)

  pub used_all : (terms i : ℕ) (uses : List ℕ) → NamesBelow nv rows terms → terms ≤ i → UsedBefore i uses → UsesFor nv rows uses
  unfolding names
  used_all terms i uses B l U = record {
    long = U.long;
    above = λ x r m k. go x r m k (dec_lt r i);
    names_it = λ x r m q. (U.names_it x r m q).1;
  }
    where
      go : (x r : ℕ) → x < nv → names (row_names rows r) x ≡ true → Dec (r < i) → r < get_or uses x 0
      go x r m k (yes h) = U.above x r m h k
      go x r m k (no h) = absurd (false≢true (ap (λ (ys : List ℕ). names ys x) (sym (B.nothing r (omega arith))) ∙ k))

  -- ---- one row

  -- What row i names is below the number of variables, and it is marked for them.
  module _ (terms : ℕ) (B : NamesBelow nv rows terms) (i : ℕ) (uses uses' : List ℕ) (long : length uses ≡ nv) where
    pub marked_none : row_names rows i ≡ [] → uses' ≡ uses → Marked i (row_names rows i) uses uses'
    marked_none e q = rw (q, e) (none_marked i uses)

    module _ (x : ℕ) where
      pub one_below : row_names rows i ≡ x ∷ [] → x < nv
      one_below e = B.below i x (rw e (first_in x []))

      one_marked : (v : ℕ) → v ≡ suc i → x < nv → Marked i (x ∷ []) uses (set uses x v)
      one_marked v ev l = more_marked i x v ev [] (x ∷ []) (first_named x []) uses uses (omega (arith, l)) (none_marked i uses)

      pub marked_one : row_names rows i ≡ x ∷ [] → (v : ℕ) → v ≡ suc i → uses' ≡ set uses x v → Marked i (row_names rows i) uses uses'
      marked_one e v ev q = rw (q, e) (one_marked v ev (one_below e))

      module _ (y : ℕ) (e : row_names rows i ≡ x ∷ y ∷ []) where
        pub two_below : (x < nv) × (y < nv)
        two_below = (B.below i x (rw e (first_in x (y ∷ []))), B.below i y (rw (e, last_named x y y, eq-eqb y y refl)))

        pub marked_two : (v : ℕ) → v ≡ suc i → uses' ≡ set (set uses x v) y v → Marked i (row_names rows i) uses uses'
        marked_two v ev q = rw (q, e) (more_marked i y v ev (x ∷ []) (x ∷ y ∷ []) (last_named x y) uses (set uses x v) (omega (arith, two_below.1)) (one_marked v ev two_below.0))
