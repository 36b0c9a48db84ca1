-- Terms passed over in rows: after a term's row come the rows of those inside it, and then what comes after it. So a count of the terms
-- still to pass leads to the row after all of them.
use Prim.Native.Nat.{ℕ, zero, suc, ◌+◌, ◌*◌, ◌-◌, ◌≤◌, ◌<◌}
use native.Mathlib.Omega.{arith}
use native.Mathlib.Decide.{ℕ_discrete}
use mathlib.Core.Path.{◌≡◌, refl, ap, subst, ◌∙◌}
use mathlib.Core.Bool.{Bool, true, false}
use mathlib.Core.Logic.{◌⊎◌, ⊎_elim}
use mathlib.Core.Option.{none, some}
use mathlib.Core.List.{List}
use lib.ListN.{length}
use borrow.Author.Tests.{eq-eqb, ne_eqb}
use Rattle.syntax.specs.Kinds.{wraps_of, byte_of}
use Rattle.syntax.specs.Parts.{IsKind}
use Rattle.syntax.specs.declared.kinds.Kind as code
use Rattle.syntax.specs.declared.kinds.Kind.TheVariants as kind
use Rattle.syntax.specs.KindNumbers.{number_in}
use Rattle.syntax.specs.Limits.{Limits}
use Rattle.syntax.specs.Script.{Term, Terms, box, declare, assign, block, last, more}
use Rattle.syntax.specs.RowParts.{field_at}
use Rattle.syntax.specs.RowTrees.{place_at, RowTree, IsTree, around, before, several_at, terms_at, tree_at}
use Rattle.syntax.proofs.KindBytes.{wrapping, not_wrapping}
use Rattle.syntax.proofs.Parts.{counts}
use Rattle.syntax.proofs.RowTreeLaws.{around_inner, has_room, wrapped_inner, box_is, let_is, assign_is, block_is, block_inner}
use Rattle.syntax.proofs.ChoiceRows.{tree_some, choice_rows, tree_rows}
use Rattle.term_runner.specs.Parts.{end_of}
use Rattle.term_runner.specs.Skip.{inside_at, Passable, Passed}
use Rattle.term_runner.proofs.RowLaws.{leaf_is, leaf_end}

-- ---- the terms inside a term, by its kind

module _ (rows : List ℕ) (i : ℕ) where
  pub inside_unknown : (IsKind (field_at rows i 0) → ⊥) → 0 ≡ inside_at rows i
  unfolding inside_at wraps_of byte_of
  inside_unknown n = rw (ne_eqb (field_at rows i 0) 7 (λ e. n (omega arith)), ne_eqb (field_at rows i 0) 8 (λ e. n (omega arith)), ne_eqb (field_at rows i 0) 9 (λ e. n (omega arith)), ne_eqb (field_at rows i 0) 11 (λ e. n (omega arith)), ne_eqb (field_at rows i 0) 12 (λ e. n (omega arith)))

  module _ (k : code.Kind) (ek : number_in k ≡ field_at rows i 0) where
    pub inside_one : (k ≡ kind.Box) ⊎ ((k ≡ kind.Let) ⊎ (k ≡ kind.Assign)) → 1 ≡ inside_at rows i
    unfolding inside_at wraps_of byte_of
    inside_one h = rw (← ek) (⊎_elim (λ e. rw e) (⊎_elim (λ e. rw e) (λ e. rw e)) h)

    pub inside_block : k ≡ kind.Block → field_at rows i 1 ≡ inside_at rows i
    unfolding inside_at wraps_of byte_of
    inside_block e = rw (← ek, e)

    pub inside_choice : k ≡ kind.Choice → 2 ≡ inside_at rows i
    unfolding inside_at wraps_of byte_of
    inside_choice e = rw (← ek, e)

  pub inside_none : (k : code.Kind) → number_in k ≡ field_at rows i 0 → (k ≡ kind.Box → ⊥) → (k ≡ kind.Let → ⊥) → (k ≡ kind.Assign → ⊥) → (k ≡ kind.Block → ⊥) → (k ≡ kind.Choice → ⊥) → 0 ≡ inside_at rows i
  unfolding inside_at wraps_of byte_of
  inside_none kind.Number e a b c d f = rw (← e)
  inside_none kind.Reading e a b c d f = rw (← e)
  inside_none kind.Copy e a b c d f = rw (← e)
  inside_none kind.Move e a b c d f = rw (← e)
  inside_none kind.Shared e a b c d f = rw (← e)
  inside_none kind.Exclusive e a b c d f = rw (← e)
  inside_none kind.Box e a b c d f = absurd (a refl)
  inside_none kind.Let e a b c d f = absurd (b refl)
  inside_none kind.Assign e a b c d f = absurd (c refl)
  inside_none kind.Below e a b c d f = rw (← e)
  inside_none kind.Block e a b c d f = absurd (d refl)
  inside_none kind.Choice e a b c d f = absurd (f refl)
  inside_none kind.Sum e a b c d f = rw (← e)

-- ---- the row after what stands around something

around_end : {A B : Type 0} (f : A → B) (d : RowTree A) → end_of (around f d) ≡ end_of d
unfolding end_of
around_end f none = refl
around_end f (some r) = refl

pub some_end : {A : Type 0} (d : RowTree A) (a : A) (j : ℕ) → d ≡ some (a, j) → end_of d ≡ j
unfolding end_of
some_end d a j e = rw e

-- A term and those after it, and the row after all of them.
record Both (d : RowTree Term) (rest : ℕ → RowTree Terms) : Type 0 where
  first : IsTree d
  then : IsTree (rest (end_of d))
  end : end_of (before d rest) ≡ end_of (rest (end_of d))

both : (d : RowTree Term) (rest : ℕ → RowTree Terms) → IsTree (before d rest) → Both d rest
unfolding end_of
both none rest h = absurd h
both (some r) rest h = record { first = tt; then = around_inner (more r.0) (rest r.1) h; end = around_end (more r.0) (rest r.1) }

-- ---- terms still to pass

module _ (set : Limits) (rows : List ℕ) where
  abbrev tree : ℕ → ℕ → RowTree Term
  tree l i = tree_at set.variables l rows i

  -- From row `at` on there are n terms, each after the one before it and under levels of its own, and after them comes row `end`.
  unfoldable pub Pending : ℕ → ℕ → ℕ → Type 0
  Pending end zero at = at ≡ end
  Pending end (suc n) at = (l : ℕ) × IsTree (tree l at) × Pending end n (end_of (tree l at))

  -- One term more, before them.
  pending_more : (end n k l at : ℕ) → k ≡ suc n → IsTree (tree l at) → Pending end n (end_of (tree l at)) → Pending end k at
  unfolding Pending
  pending_more end n k l at e h p = rw e (l, h, p)

  pending_one : (l i : ℕ) → IsTree (tree l i) → Pending (end_of (tree l i)) 1 i
  unfolding Pending
  pending_one l i h = (l, h, refl)

  pending_none : (end n at : ℕ) → n ≤ 0 → Pending end n at → at ≡ end
  unfolding Pending
  pending_none end zero at h p = p
  pending_none end (suc n) at h p = absurd (omega arith)

  pending_room : (end n at : ℕ) → 0 < n → Pending end n at → 5 * at + 5 ≤ length rows
  unfolding Pending
  pending_room end zero at h p = absurd (omega arith)
  pending_room end (suc n) at h p = has_room set.variables p.0 rows at p.1

  -- Each takes a row at least.
  pending_few : (end n at : ℕ) → Pending end n at → at + n ≤ end
  unfolding Pending
  pending_few end zero at p = omega arith
  pending_few end (suc n) at p = go (tree p.0 at) refl p.1 (pending_few end n (end_of (tree p.0 at)) p.2)
    where
      go : (d : RowTree Term) → tree p.0 at ≡ d → IsTree d → end_of (tree p.0 at) + n ≤ end → at + suc n ≤ end
      go none e h q = absurd h
      go (some r) e h q = omega (arith, some_end (tree p.0 at) r.0 r.1 e, (tree_rows rows set.variables p.0 at r.0 r.1 e).0, (counts r.0).terms)

  module _ (l end n : ℕ) where
    several_pending : (k at : ℕ) → IsTree (several_at (tree l) k at) → Pending end n (end_of (several_at (tree l) k at)) → Pending end (suc k + n) at
    unfolding several_at
    several_pending zero at h p = pending_more end n (1 + n) l at (omega arith) (around_inner last (tree l at) h) (rw (← around_end last (tree l at)) p)
    several_pending (suc k) at h p =
        let b = both (tree l at) (several_at (tree l) k) h in
        pending_more end (suc k + n) (suc (suc k) + n) l at (omega arith) b.first (several_pending k (end_of (tree l at)) b.then (rw (← b.end) p))

    terms_pending : (k at : ℕ) → IsTree (terms_at (tree l) k at) → Pending end n (end_of (terms_at (tree l) k at)) → Pending end (k + n) at
    unfolding terms_at
    terms_pending zero at h p = absurd h
    terms_pending (suc k) at h p = several_pending k at h p

  -- ---- a term's row passed

  module _ (l at : ℕ) (h : IsTree (tree l at)) where
    wrapped_end : wraps_of (field_at rows at 0) ≡ true → end_of (tree l at) ≡ end_of (tree (l - 1) (at + 1))
    wrapped_end w = ⊎_elim
        (λ e. ap end_of (box_is set.variables l rows at h e) ∙ around_end (box at) _)
        (λ m. ⊎_elim
        (λ e. ap end_of (let_is set.variables l rows at h e) ∙ around_end (declare at (field_at rows at 1)) _)
        (λ e. ap end_of (assign_is set.variables l rows at h e) ∙ around_end (assign at (place_at rows at 1)) _)
        m)
        (wrapping (field_at rows at 0) w)

    module _ (end n : ℕ) (p : Pending end n (end_of (tree l at))) where
      pass_wrapped : wraps_of (field_at rows at 0) ≡ true → Pending end (1 + n) (at + 1)
      pass_wrapped w = pending_more end n (1 + n) (l - 1) (at + 1) (omega arith) (wrapped_inner set.variables l rows at h w) (rw (← wrapped_end w) p)

      pass_block : field_at rows at 0 ≡ 11 → Pending end (field_at rows at 1 + n) (at + 1)
      pass_block e =
          let q = ap end_of (block_is set.variables l rows at h e) ∙ around_end (block at) (terms_at (tree (l - 1)) (field_at rows at 1) (at + 1)) in
          terms_pending (l - 1) end n (field_at rows at 1) (at + 1) (block_inner set.variables l rows at h e) (rw (← q) p)

      pass_choice : field_at rows at 0 ≡ 12 → Pending end (2 + n) (at + 1)
      pass_choice e =
          let c = choice_rows set.variables l rows at h e in
          let a = c.first in
          let b = c.second in
          pending_more end (1 + n) (2 + n) (l - 1) (at + 1) (omega arith) (tree_some _ a.is) (rw (some_end _ _ _ a.is)
          (pending_more end n (1 + n) (l - 1) a.end (omega arith) (tree_some _ b.is) (rw (some_end _ _ _ b.is, ← some_end _ _ _ c.is) p)))

      pass_leaf : wraps_of (field_at rows at 0) ≡ false → (field_at rows at 0 ≡ 11 → ⊥) → (field_at rows at 0 ≡ 12 → ⊥) → Pending end (0 + n) (at + 1)
      pass_leaf w d c =
          let e = leaf_is set l rows at (field_at rows at 0) h refl (not_wrapping refl w) d c in
          let q : 0 + n ≡ n = omega arith in
          rw (q, ← leaf_end set rows at (subst IsTree e h), ← e) p

      -- By its kind.
      pass : Pending end (inside_at rows at + n) (at + 1)
      unfolding inside_at
      pass = go (wraps_of (field_at rows at 0)) refl (ℕ_discrete (field_at rows at 0) 11) (ℕ_discrete (field_at rows at 0) 12)
        where
          go : (w : Bool) → wraps_of (field_at rows at 0) ≡ w → Dec (field_at rows at 0 ≡ 11) → Dec (field_at rows at 0 ≡ 12) → Pending end (inside_at rows at + n) (at + 1)
          go true w d c = rw w (pass_wrapped w)
          go false w (yes d) c = rw (w, eq-eqb _ _ d) (pass_block d)
          go false w (no d) (yes c) = rw (w, ne_eqb _ _ d, eq-eqb _ _ c) (pass_choice c)
          go false w (no d) (no c) = rw (w, ne_eqb _ _ d, ne_eqb _ _ c) (pass_leaf w d c)

  pending_goes : (end n at m : ℕ) → 0 < n → m ≡ inside_at rows at → Pending end n at → Pending end (n - 1 + m) (at + 1)
  unfolding Pending
  pending_goes end zero at m h e p = absurd (omega arith)
  pending_goes end (suc n) at m h e p = let q : suc n - 1 + m ≡ inside_at rows at + n = omega arith in rw q (pass p.0 at p.1 end n p.2)

-- ---- the loop

-- Whatever set and levels the term is read under: those still to pass lead to the row after it.
abbrev pub Passing : List ℕ → ℕ → ℕ → ℕ → Type 0
Passing rows i left at = (set : Limits) (levels : ℕ) → IsTree (tree_at set.variables levels rows i) → Pending set rows (end_of (tree_at set.variables levels rows i)) left at

module _ (rows : List ℕ) (i : ℕ) where
  pub passing_starts : Passing rows i 1 i
  passing_starts set levels h = pending_one set rows levels i h

  module _ (left at : ℕ) (p : Passing rows i left at) where
    pub passing_ends : left ≤ 0 → Passed rows i at
    passing_ends z set levels h = pending_none set rows _ left at z (p set levels h)

    module _ (g : Passable rows i) (any : 0 < left) where
      pub passing_room : 5 * at + 5 ≤ length rows
      passing_room = pending_room g.set rows _ left at any (p g.set g.levels g.is)

      module _ (more : ℕ) (e : more ≡ inside_at rows at) where
        pub passing_goes : Passing rows i (left - 1 + more) (at + 1)
        passing_goes set levels h = pending_goes set rows _ left at more any e (p set levels h)

        -- There are no more of them than rows.
        pub passing_few : left - 1 + more ≤ length rows
        passing_few = go (tree_at g.set.variables g.levels rows i) refl g.is (pending_few g.set rows _ _ _ (passing_goes g.set g.levels g.is))
          where
            go : (d : RowTree Term) → tree_at g.set.variables g.levels rows i ≡ d → IsTree d → at + 1 + (left - 1 + more) ≤ end_of (tree_at g.set.variables g.levels rows i) → left - 1 + more ≤ length rows
            go none q h s = absurd h
            go (some r) q h s = omega (arith, some_end _ r.0 r.1 q, (tree_rows rows g.set.variables g.levels i r.0 r.1 q).1)
