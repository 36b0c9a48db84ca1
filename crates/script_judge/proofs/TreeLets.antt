-- The lets of a term that stands in rows have numbers below the number of variables: a let names its variable, and all that the term names is
-- below. Assumes nothing.
use Prim.Native.Nat.{ℕ}
use mathlib.Core.Path.{◌≡◌, refl, ap, ◌∙◌}
use mathlib.Core.Bool.{Bool, true}
use mathlib.Core.Option.{none, some}
use mathlib.Core.List.{List, [], ◌∷◌, ◌++◌}
use borrow.Author.Tests.{eq-eqb}
use Rattle.syntax.specs.Result.{pick}
use Rattle.syntax.specs.Script.{Term, number, reading, copy, move, borrow_shared, borrow_exclusive, box, declare, assign, below, block, choice, sum, Terms, last, more}
use Rattle.syntax.specs.RowTrees.{RowTree, tree_at}
use Rattle.statics.specs.Uses.{Unfinished, naming, finishing, finishing_all, named_later}
use Rattle.statics.specs.Neat.{LetsBelow, LetsBelowAll}
use Rattle.statics.proofs.Finishing.{named_either}
use Rattle.uses.proofs.EitherLaws.{swapped}
use Rattle.uses.proofs.RowUseLaws.{named_one, one_names}
use Rattle.term_judge.proofs.TreeNames.{AllBelow, tree_below}

abbrev pub Lets : ℕ → RowTree Term → Type 0
Lets nv none = Unit {0}
Lets nv (some r) = LetsBelow nv r.0

-- The parts of a term name no more than the term.
module _ (nv : ℕ) where
  first_below : (ms ns : Unfinished) → AllBelow nv (ms ++ ns) → AllBelow nv ms
  first_below ms ns h x e = h x (named_either ms ns x ∙ ap (λ (b : Bool). pick b true (named_later ns x)) e)

  second_below : (ms ns : Unfinished) → AllBelow nv (ms ++ ns) → AllBelow nv ns
  second_below ms ns h x e = h x (named_either ms ns x ∙ swapped (named_later ms x) (named_later ns x) ∙ ap (λ (b : Bool). pick b true (named_later ms x)) e)

  mutual
    unfolding LetsBelow finishing

    term_lets : (t : Term) → AllBelow nv (finishing t) → LetsBelow nv t
    term_lets (number i n) h = tt
    term_lets (reading i n) h = tt
    term_lets (copy i p) h = tt
    term_lets (move i p) h = tt
    term_lets (borrow_shared i p) h = tt
    term_lets (borrow_exclusive i p) h = tt
    term_lets (box i t) h = term_lets t (first_below (finishing t) _ h)
    term_lets (declare i x t) h = (second_below (finishing t) _ h x (one_names (x ∷ []) x ∙ named_one x x ∙ eq-eqb x x refl), term_lets t (first_below (finishing t) _ h))
    term_lets (assign i p t) h = term_lets t (first_below (finishing t) _ h)
    term_lets (below i p q) h = tt
    term_lets (block i ts) h = terms_lets ts (first_below (finishing_all ts) _ h)
    term_lets (choice i p j us k vs) h = (
      terms_lets us (first_below (finishing_all us) (naming []) (first_below (finishing_all us ++ naming []) _ h)),
      terms_lets vs (first_below (finishing_all vs) (naming []) (first_below (finishing_all vs ++ naming []) _ (second_below (finishing_all us ++ naming []) _ h))),
    )
    term_lets (sum i p q) h = tt

    terms_lets : (ts : Terms) → AllBelow nv (finishing_all ts) → LetsBelowAll nv ts
    terms_lets (last t) h = term_lets t h
    terms_lets (more t ts) h = (term_lets t (first_below (finishing t) _ h), terms_lets ts (second_below (finishing t) _ h))

pub tree_lets : (nv l : ℕ) (rows : List ℕ) (i : ℕ) → Lets nv (tree_at nv l rows i)
tree_lets nv l rows i = go (tree_at nv l rows i) refl
  where
    go : (d : RowTree Term) → tree_at nv l rows i ≡ d → Lets nv d
    go none e = tt
    go (some r) e = term_lets nv r.0 (tree_below nv l rows i r.0 r.1 e)
