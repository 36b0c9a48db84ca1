-- The terms that have not finished: those in a term and itself come first; once it has finished, the rest is left.
use Prim.Native.Nat.{ℕ, suc}
use native.Mathlib.Omega.{arith}
use mathlib.Core.Path.{◌≡◌, refl, ◌∙◌}
use mathlib.Core.Bool.{Bool, true, false, false≢true}
use mathlib.Core.List.{List, [], ◌∷◌, ◌++◌}
use lib.Dec.{eqb}
use lib.ListN.{length, drop, length-append}
use lib.Seq.{drop-append_seam}
use borrow.Author.Tests.{eq-eqb}
use Rattle.syntax.specs.Result.{pick}
use Rattle.syntax.specs.Script.{Term, number, reading, copy, move, borrow_shared, borrow_exclusive, box, declare, assign, below, block, choice, sum, Terms, last, more}
use Rattle.syntax.specs.Measures.{size, sizes}
use Rattle.statics.specs.Uses.{Unfinished, naming, finishing, finishing_all, names, named_later}

mutual
  unfolding finishing size

  finishing_size : (t : Term) → length (finishing t) ≡ size t
  finishing_size (number i n) = refl
  finishing_size (reading i n) = refl
  finishing_size (copy i p) = refl
  finishing_size (move i p) = refl
  finishing_size (borrow_shared i p) = refl
  finishing_size (borrow_exclusive i p) = refl
  finishing_size (box i t) = let a = length-append (finishing t) (naming []) in let b = finishing_size t in omega arith
  finishing_size (declare i x t) = let a = length-append (finishing t) (naming (x ∷ [])) in let b = finishing_size t in omega arith
  finishing_size (assign i p t) = let a = length-append (finishing t) (naming (p.root ∷ [])) in let b = finishing_size t in omega arith
  finishing_size (below i p q) = refl
  finishing_size (block i ts) = let a = length-append (finishing_all ts) (naming []) in let b = finishing_sizes ts in omega arith
  finishing_size (choice i p j us k vs) =
      let a = length-append (finishing_all us ++ naming []) ((finishing_all vs ++ naming []) ++ naming (p.root ∷ [])) in
      let b = length-append (finishing_all us) (naming []) in
      let c = length-append (finishing_all vs ++ naming []) (naming (p.root ∷ [])) in
      let d = length-append (finishing_all vs) (naming []) in
      let e = finishing_sizes us in
      let f = finishing_sizes vs in
      omega arith
  finishing_size (sum i p q) = refl

  finishing_sizes : (ts : Terms) → length (finishing_all ts) ≡ sizes ts
  finishing_sizes (last t) = finishing_size t
  finishing_sizes (more t ts) = let a = length-append (finishing t) (finishing_all ts) in let b = finishing_size t in let c = finishing_sizes ts in omega arith

-- Once a term has finished, what came after it is left.
pub left_after : (t : Term) (ns rest : Unfinished) → ns ≡ finishing t ++ rest → drop (size t) ns ≡ rest
left_after t ns rest e = rw (← (finishing_size t), e) (drop-append_seam (finishing t) rest)

-- Once a block of a choice has.
pub left_after_block : (ts : Terms) (ns rest : Unfinished) → ns ≡ (finishing_all ts ++ naming []) ++ rest → drop (suc (sizes ts)) ns ≡ rest
left_after_block ts ns rest e =
    let a = length-append (finishing_all ts) (naming []) in
    let b = finishing_sizes ts in
    let n : suc (sizes ts) ≡ length (finishing_all ts ++ naming []) = omega arith in
    rw (n, e) (drop-append_seam (finishing_all ts ++ naming []) rest)

-- ---- who is named later

names_there : (xs ys : List ℕ) (x : ℕ) → names (xs ++ (x ∷ ys)) x ≡ true
unfolding names
names_there [] ys x = go (eqb x x) (eq-eqb x x refl)
  where
    go : (b : Bool) → b ≡ true → elim b [ true ↦ true | false ↦ names ys x ] ≡ true
    go true h = refl
    go false h = absurd (false≢true h)
names_there (y ∷ xs) ys x = go (eqb y x) (names_there xs ys x)
  where
    go : (b : Bool) → names (xs ++ (x ∷ ys)) x ≡ true → elim b [ true ↦ true | false ↦ names (xs ++ (x ∷ ys)) x ] ≡ true
    go true h = refl
    go false h = h

-- The next term to finish names it.
pub named_next : (xs ys : List ℕ) (x : ℕ) (ns : Unfinished) → named_later ((xs ++ (x ∷ ys)) ∷ ns) x ≡ true
unfolding named_later
named_next xs ys x ns = go (names (xs ++ (x ∷ ys)) x) (names_there xs ys x)
  where
    go : (b : Bool) → b ≡ true → elim b [ true ↦ true | false ↦ named_later ns x ] ≡ true
    go true h = refl
    go false h = absurd (false≢true h)

-- Named by these or by those.
pub named_either : (ms ns : Unfinished) (x : ℕ) → named_later (ms ++ ns) x ≡ pick (named_later ms x) true (named_later ns x)
unfolding named_later
named_either [] ns x = refl
named_either (xs ∷ ms) ns x = go (names xs x) (named_either ms ns x)
  where
    go : (b : Bool) → named_later (ms ++ ns) x ≡ pick (named_later ms x) true (named_later ns x)
        → elim b [ true ↦ true | false ↦ named_later (ms ++ ns) x ] ≡ pick (elim b [ true ↦ true | false ↦ named_later ms x ]) true (named_later ns x)
    go true ih = refl
    go false ih = ih

-- Who is named later is named later from an earlier moment on.
pub named_after : (ms ns : Unfinished) (x : ℕ) → named_later ns x ≡ true → named_later (ms ++ ns) x ≡ true
named_after ms ns x h = named_either ms ns x ∙ go (named_later ms x)
  where
    go : (b : Bool) → pick b true (named_later ns x) ≡ true
    go true = refl
    go false = h

pub named_before : (ms ns rest : Unfinished) → ns ≡ ms ++ rest → (x : ℕ) → named_later rest x ≡ true → named_later ns x ≡ true
named_before ms ns rest e x h = rw e (named_after ms rest x h)
