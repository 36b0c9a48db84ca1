-- What the rows from one on name, by the last use of each variable, and what the terms that have not finished name. Assumes nothing.
use Prim.Native.Nat.{ℕ, zero, suc, ◌+◌, ◌<◌, ◌≤◌}
use native.Mathlib.Omega.{arith}
use native.Mathlib.Decide.{ℕ_discrete, dec_lt}
use mathlib.Core.Path.{◌≡◌, refl, sym, ap, ◌∙◌}
use mathlib.Core.Bool.{Bool, true, false, false≢true}
use mathlib.Core.List.{List, [], ◌∷◌}
use lib.Dec.{ltb, eqb}
use lib.ListN.{get_or}
use borrow.Author.Tests.{eq-eqb, ne_eqb, lt-ltb, le-ltb}
use Rattle.syntax.specs.Result.{pick}
use Rattle.statics.specs.Uses.{Unfinished, names, named_later}
use Rattle.uses.specs.RowUses.{row_names, namings, UsesFor, those, later_at, later_in}
use Rattle.variables.proofs.TableLaws.{pick_true}
use Rattle.uses.proofs.EitherLaws.{grouped, second}

-- ---- the first of several

pub first_named : (y : ℕ) (ys : List ℕ) (x : ℕ) → names (y ∷ ys) x ≡ pick (eqb y x) true (names ys x)
unfolding names
first_named y ys x = go (eqb y x)
  where
    go : (b : Bool) → elim b [ true ↦ true | false ↦ names ys x ] ≡ pick b true (names ys x)
    go true = refl
    go false = refl

pub named_one : (x z : ℕ) → names (x ∷ []) z ≡ eqb x z
unfolding names
named_one x z = first_named x [] z ∙ pick_true (eqb x z)

pub first_later : (xs : List ℕ) (ns : Unfinished) (x : ℕ) → named_later (xs ∷ ns) x ≡ pick (names xs x) true (named_later ns x)
unfolding named_later
first_later xs ns x = go (names xs x)
  where
    go : (b : Bool) → elim b [ true ↦ true | false ↦ named_later ns x ] ≡ pick b true (named_later ns x)
    go true = refl
    go false = refl

pub first_row : (rows : List ℕ) (i n x : ℕ) → named_later (namings rows i (suc n)) x ≡ pick (names (row_names rows i) x) true (named_later (namings rows (suc i) n) x)
unfolding namings
first_row rows i n x = first_later (row_names rows i) (namings rows (suc i) n) x

-- ---- one term that names all

those_above : (f : ℕ → Bool) (n x : ℕ) → n ≤ x → names (those f n) x ≡ false
unfolding names those
those_above f zero x l = refl
those_above f (suc n) x l = go (those_above f n x (omega arith)) (f n)
  where
    go : names (those f n) x ≡ false → (b : Bool) → names (pick b (n ∷ those f n) (those f n)) x ≡ false
    go ih true = first_named n (those f n) x ∙ rw (ne_eqb n x (λ q. omega arith)) ih
    go ih false = ih

names_those : (f : ℕ → Bool) (n x : ℕ) → x < n → names (those f n) x ≡ f x
unfolding those
names_those f zero x l = absurd (omega arith)
names_those f (suc n) x l = go (λ k. names_those f n x k) (ℕ_discrete n x) (f n) refl
  where
    go : (x < n → names (those f n) x ≡ f x) → Dec (n ≡ x) → (b : Bool) → f n ≡ b → names (pick b (n ∷ those f n) (those f n)) x ≡ f x
    go ih (yes q) true k = first_named n (those f n) x ∙ rw (eq-eqb n x q) (sym k ∙ ap f q)
    go ih (yes q) false k = those_above f n x (omega arith) ∙ sym k ∙ ap f q
    go ih (no q) true k = first_named n (those f n) x ∙ rw (ne_eqb n x q) (ih (omega arith))
    go ih (no q) false k = ih (omega arith)

-- Whether the one term names it is whether a term does.
pub one_names : (xs : List ℕ) (x : ℕ) → named_later (xs ∷ []) x ≡ names xs x
unfolding named_later
one_names xs x = first_later xs [] x ∙ pick_true (names xs x)

pub named_later_at : (nv : ℕ) (uses : List ℕ) (named : ℕ → Bool) (next x : ℕ) → x < nv → named_later (later_at nv uses named next) x ≡ pick (ltb next (get_or uses x 0)) true (named x)
unfolding later_at
named_later_at nv uses named next x l =
    one_names (those (λ y. pick (ltb next (get_or uses y 0)) true (named y)) nv) x ∙ names_those (λ y. pick (ltb next (get_or uses y 0)) true (named y)) nv x l

-- ---- rows

-- The last of the rows may as well come first.
pub last_row : (rows : List ℕ) (i n x : ℕ) → named_later (namings rows i (suc n)) x ≡ pick (names (row_names rows (i + n)) x) true (named_later (namings rows i n) x)
unfolding named_later namings
last_row rows i zero x =
    let e : i ≡ i + 0 = omega arith in
    first_row rows i 0 x ∙ ap (λ (r : ℕ). pick (names (row_names rows r) x) true false) e
last_row rows i (suc n) x =
    let e : suc i + n ≡ i + suc n = omega arith in
    first_row rows i (suc n) x
    ∙ ap (λ (b : Bool). pick (names (row_names rows i) x) true b) (last_row rows (suc i) n x)
    ∙ second (names (row_names rows i) x) (names (row_names rows (suc i + n)) x) (named_later (namings rows (suc i) n) x)
    ∙ ap (λ (r : ℕ). pick (names (row_names rows r) x) true (pick (names (row_names rows i) x) true (named_later (namings rows (suc i) n) x))) e
    ∙ ap (λ (b : Bool). pick (names (row_names rows (i + suc n)) x) true b) (sym (first_row rows i n x))

pub named_in : (rows : List ℕ) (i n : ℕ) (ns : Unfinished) (x : ℕ) → named_later (later_in rows i n ns) x ≡ pick (named_later (namings rows i n) x) true (named_later ns x)
unfolding named_later namings later_in
named_in rows i zero ns x = refl
named_in rows i (suc n) ns x =
    first_later (row_names rows (i + n)) (later_in rows i n ns) x
    ∙ ap (λ (b : Bool). pick (names (row_names rows (i + n)) x) true b) (named_in rows i n ns x)
    ∙ grouped (names (row_names rows (i + n)) x) (named_later (namings rows i n) x) (named_later ns x)
    ∙ ap (λ (b : Bool). pick b true (named_later ns x)) (sym (last_row rows i n x))

-- ---- last uses

module _ (nv : ℕ) (rows uses : List ℕ) (u : UsesFor nv rows uses) (x : ℕ) (l : x < nv) where
  abbrev last : ℕ
  last = get_or uses x 0

  -- A row that does not name the variable is not its last use.
  other_row : (a : ℕ) → names (row_names rows a) x ≡ false → Dec (last ≡ suc a) → ltb a last ≡ ltb (suc a) last
  other_row a k (yes q) = absurd (false≢true (sym k ∙ u.names_it x a l q))
  other_row a k (no q) = go (dec_lt a last)
    where
      go : Dec (a < last) → ltb a last ≡ ltb (suc a) last
      go (yes m) = lt-ltb a last m ∙ sym (lt-ltb (suc a) last (omega arith))
      go (no m) = le-ltb a last (omega arith) ∙ sym (le-ltb (suc a) last (omega arith))

  from_row : (a n : ℕ) → ltb a last ≡ pick (named_later (namings rows a n) x) true (ltb (a + n) last)
  unfolding named_later namings
  from_row a zero = let e : a ≡ a + 0 = omega arith in ap (λ (r : ℕ). ltb r last) e
  from_row a (suc n) = go (names (row_names rows a) x) refl (from_row (suc a) n) ∙ ap (λ (b : Bool). pick b true (ltb (a + suc n) last)) (sym (first_row rows a n x))
    where
      go : (b : Bool) → names (row_names rows a) x ≡ b → ltb (suc a) last ≡ pick (named_later (namings rows (suc a) n) x) true (ltb (suc a + n) last)
          → ltb a last ≡ pick (pick b true (named_later (namings rows (suc a) n) x)) true (ltb (a + suc n) last)
      go true k ih = lt-ltb a last (u.above x a l k)
      go false k ih =
          let e : suc a + n ≡ a + suc n = omega arith in
          other_row a k (ℕ_discrete last (suc a)) ∙ ih ∙ ap (λ (r : ℕ). pick (named_later (namings rows (suc a) n) x) true (ltb r last)) e

-- A variable is used from row a on where one of the n rows from there names it, or it is used after them.
pub used_from : (nv : ℕ) (rows uses : List ℕ) → UsesFor nv rows uses → (x a n : ℕ) → x < nv → ltb a (get_or uses x 0) ≡ pick (named_later (namings rows a n) x) true (ltb (a + n) (get_or uses x 0))
used_from nv rows uses u x a n l = from_row nv rows uses u x l a n
