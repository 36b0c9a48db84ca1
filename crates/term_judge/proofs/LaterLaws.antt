-- The terms that have not finished, by rows (LANGUAGE 3.32, 3.33): those from a row on, and those around it. Only who is named counts.
use Prim.Native.Nat.{ℕ, suc, ◌+◌, ◌-◌, ◌≤◌, ◌<◌}
use native.Mathlib.Omega.{arith}
use native.Mathlib.Decide.{dec_lt}
use mathlib.Core.Path.{◌≡◌, refl, sym, ap, ap₂, ◌∙◌}
use mathlib.Core.Bool.{Bool, true, false, false≢true}
use mathlib.Core.Option.{some}
use mathlib.Core.List.{List, [], ◌∷◌, ◌++◌}
use lib.Dec.{ltb, eqb}
use lib.ListN.{get_or}
use borrow.Author.Tests.{le-ltb}
use Rattle.syntax.specs.Result.{pick}
use Rattle.syntax.specs.Script.{Term, Terms}
use Rattle.syntax.specs.RowTrees.{RowTree, several_at, tree_at}
use Rattle.statics.specs.Uses.{Unfinished, finishing, finishing_all, names, named_later}
use Rattle.bars.specs.Leading.{LaterIs}
use Rattle.uses.specs.RowUses.{row_names, namings, UsesFor, later_at, later_in, named_with}
use Rattle.statics.proofs.Finishing.{named_either}
use Rattle.statics.proofs.SameLater.{SameLater, same_append}
use Rattle.uses.proofs.EitherLaws.{swapped, grouped, turned}
use Rattle.uses.proofs.RowUseLaws.{first_later, named_one, named_later_at, named_in, used_from}
use Rattle.term_judge.proofs.TreeNames.{tree_names, several_names}

-- Who is named from row j on: who the term there names, or who is named after it.
abbrev pub Follows : ℕ → (ℕ → Unfinished) → (ℕ → RowTree Term) → Type 0
Follows nv later f = (j : ℕ) (t : Term) (k : ℕ) → f j ≡ some (t, k) → SameLater nv (later j) (finishing t ++ later k)

abbrev pub FollowsAll : ℕ → (ℕ → Unfinished) → (ℕ → RowTree Terms) → Type 0
FollowsAll nv later f = (j : ℕ) (ts : Terms) (k : ℕ) → f j ≡ some (ts, k) → SameLater nv (later j) (finishing_all ts ++ later k)

-- ---- around

module _ (nv : ℕ) (rows uses : List ℕ) (named : ℕ → Bool) (start n : ℕ) where
  -- Inside n terms around one another: the unfinished terms name what these n name, and what is named after them.
  later_around : (next : ℕ) → LaterIs nv uses next (named_with rows start n named) (later_in rows start n (later_at nv uses named next))
  later_around next x l =
      named_in rows start n (later_at nv uses named next) x
      ∙ ap (λ (b : Bool). pick (named_later (namings rows start n) x) true b) (named_later_at nv uses named next x l)
      ∙ turned (named_later (namings rows start n) x) (ltb next (get_or uses x 0)) (named x)

  module _ (inside : ℕ → Bool) where
    -- The set of a block has them.
    pub block_later : ((x : ℕ) → inside x ≡ named_with rows start n named x) → (next : ℕ) → SameLater nv (later_at nv uses inside next) (later_in rows start n (later_at nv uses named next))
    block_later e next x l =
        named_later_at nv uses inside next x l
        ∙ ap (λ (b : Bool). pick (ltb next (get_or uses x 0)) true b) (e x)
        ∙ sym (later_around next x l)

    -- That of a choice's blocks has the root of the choice besides.
    pub choice_later : (root : ℕ) → ((x : ℕ) → inside x ≡ pick (named_with rows start n named x) true (eqb root x)) → (next : ℕ) → SameLater nv (later_at nv uses inside next) ((root ∷ []) ∷ later_in rows start n (later_at nv uses named next))
    choice_later root e next x l =
        named_later_at nv uses inside next x l
        ∙ ap (λ (b : Bool). pick (ltb next (get_or uses x 0)) true b) (e x)
        ∙ grouped (ltb next (get_or uses x 0)) (named_with rows start n named x) (eqb root x)
        ∙ swapped (pick (ltb next (get_or uses x 0)) true (named_with rows start n named x)) (eqb root x)
        ∙ ap₂ (λ (a b : Bool). pick a true b) (sym (named_one root x)) (sym (later_around next x l))
        ∙ sym (first_later (root ∷ []) (later_in rows start n (later_at nv uses named next)) x)

-- The same for the term at row i, which is one of those around: it has not finished when its rule is asked.
pub after_later : (nv : ℕ) (rows uses : List ℕ) (named : ℕ → Bool) (start i : ℕ) → start ≤ i → (next : ℕ) → LaterIs nv uses next (named_with rows start (i + 1 - start) named) (row_names rows i ∷ later_in rows start (i - start) (later_at nv uses named next))
unfolding later_in
after_later nv rows uses named start i h next =
    let n : i + 1 - start ≡ suc (i - start) = omega arith in
    let at : start + (i - start) ≡ i = omega arith in
    rw n (rw at at (later_around nv rows uses named start (suc (i - start)) next))

-- ---- before

module _ (nv : ℕ) (rows uses : List ℕ) (U : UsesFor nv rows uses) where
  module _ (named : ℕ → Bool) where
    -- Where the rows from j to k name what ns does.
    rows_later : (ns : Unfinished) (j k : ℕ) → (j < k) × ((x : ℕ) → named_later ns x ≡ named_later (namings rows j (k - j)) x) → SameLater nv (later_at nv uses named j) (ns ++ later_at nv uses named k)
    rows_later ns j k h x l =
        let w : j + (k - j) ≡ k = omega (arith, h.0) in
        let u : ltb j (get_or uses x 0) ≡ pick (named_later ns x) true (ltb k (get_or uses x 0)) = rw (h.1 x) (rw w at (used_from nv rows uses U x j (k - j) l)) in
        named_later_at nv uses named j x l
        ∙ ap (λ (b : Bool). pick b true (named x)) u
        ∙ sym (grouped (named_later ns x) (ltb k (get_or uses x 0)) (named x))
        ∙ ap (λ (b : Bool). pick (named_later ns x) true b) (sym (named_later_at nv uses named k x l))
        ∙ sym (named_either ns (later_at nv uses named k) x)

    pub tree_follows : (l : ℕ) → Follows nv (later_at nv uses named) (tree_at nv l rows)
    tree_follows l j t k e = rows_later (finishing t) j k (tree_names nv l rows j t k e)

    pub terms_follow : (l n : ℕ) → FollowsAll nv (later_at nv uses named) (several_at (tree_at nv l rows) n)
    terms_follow l n j ts k e = rows_later (finishing_all ts) j k (several_names nv l rows n j ts k e)

    -- After the last row that names something nothing is named, if nothing is named around.
    pub nothing_later : (j : ℕ) → ((k : ℕ) → j ≤ k → row_names rows k ≡ []) → ((x : ℕ) → named x ≡ false) → SameLater nv (later_at nv uses named j) []
    unfolding named_later names
    nothing_later j after e x l = named_later_at nv uses named j x l ∙ rw (e x, le-ltb j (get_or uses x 0) (go (dec_lt j (get_or uses x 0)))) refl
      where
        go : Dec (j < get_or uses x 0) → get_or uses x 0 ≤ j
        go (yes m) =
            let k = get_or uses x 0 - 1 in
            let h : names (row_names rows k) x ≡ true = U.names_it x k l (omega arith) in
            absurd (false≢true (rw (after k (omega arith)) at h))
        go (no m) = omega arith

  -- The term at row i and those around it have not finished where it begins.
  pub tree_later : (named : ℕ → Bool) (start n l i : ℕ) (t : Term) (next : ℕ) → tree_at nv l rows i ≡ some (t, next)
      → LaterIs nv uses i (named_with rows start n named) (finishing t ++ later_in rows start n (later_at nv uses named next))
  tree_later named start n l i t next e x b =
      let inside = named_with rows start n named in
      sym (same_append nv (finishing t) (later_at nv uses inside next) (later_in rows start n (later_at nv uses named next)) (block_later nv rows uses named start n inside (λ y. refl) next) x b)
      ∙ sym (tree_follows inside l i t next e x b)
      ∙ named_later_at nv uses inside i x b
