-- Borrow ends by their roots: the kind is that of the first borrow link, and where there is one the places are those of the roots. Assumes
-- nothing.
use Prim.Native.Nat.{ℕ, ◌<◌}
use native.Mathlib.Omega.{arith}
use mathlib.Core.Path.{◌≡◌, refl, sym, ap, ◌∙◌}
use mathlib.Core.Logic.{inl}
use mathlib.Core.Bool.{Bool, true, false, false≢true}
use mathlib.Core.List.{List, [], ◌∷◌}
use lib.ListN.{length}
use Rattle.syntax.specs.Script.{Place}
use Rattle.variables.specs.declared.table.Row.{Row}
use Rattle.variables.specs.declared.roots.Roots.{Roots}
use Rattle.variables.specs.declared.table.BorrowEnd.{BorrowEnd}
use Rattle.variables.specs.declared.table.BorrowEnd.TheVariants as end
use Rattle.statics.specs.Links.{Link, boxed, shared, exclusive, leading_boxes}
use Rattle.statics.specs.Places.{rooted}
use Rattle.statics.specs.Environment.{Borrow, no_borrow, shared_of, exclusive_of, places, borrow_end}
use Rattle.statics.specs.Neat.{Among}
use Rattle.statics.specs.Roots.{places_from, places_of, left}
use Rattle.variables.specs.declared.chains.Link as code
use Rattle.variables.specs.declared.chains.Link.TheVariants as link
use Rattle.variables.specs.Chains.{chain_of, as_link}
use Rattle.variables.specs.Masks.{has}
use Rattle.variables.specs.Table.{long_at, places_in, end_in, variable_of, borrow_end_of, end_roots, as_borrow, as_variable}
use Rattle.variables.proofs.MaskLaws.{has_below, in_none}
use Rattle.statics.proofs.SetLaws.{rooted_in, rooted_out, end_out}
use Rattle.statics.proofs.RootLaws.{from_out, rooted_places}

-- ---- the borrow end by the first link

pub end_number : (n : ℕ) (s : Roots) → chain_of n ≡ [] → borrow_end_of (chain_of n) s ≡ end.None
unfolding borrow_end_of
end_number n s e = rw e

module _ (n after : ℕ) (l : code.Link) (s : Roots) (e : chain_of n ≡ as_link l ∷ chain_of after) where
  pub end_boxed : l ≡ link.Box → borrow_end_of (chain_of n) s ≡ borrow_end_of (chain_of after) s
  unfolding borrow_end_of
  end_boxed h = rw (e, h)

  pub end_shared : l ≡ link.Shared → borrow_end_of (chain_of n) s ≡ end.Shared s
  unfolding borrow_end_of
  end_shared h = rw (e, h)

  pub end_exclusive : l ≡ link.Exclusive → borrow_end_of (chain_of n) s ≡ end.Exclusive s
  unfolding borrow_end_of
  end_exclusive h = rw (e, h)

-- ---- what the code's borrow end says of the rules'

none≢shared : {s : Roots} → end.None ≡ end.Shared s → ⊥
none≢shared e = let z : ◌≡◌ {A = ℕ} 0 1 = cc in omega arith

none≢exclusive : {s : Roots} → end.None ≡ end.Exclusive s → ⊥
none≢exclusive e = let z : ◌≡◌ {A = ℕ} 0 1 = cc in omega arith

shared≢exclusive : {s t : Roots} → end.Shared s ≡ end.Exclusive t → ⊥
shared≢exclusive e = let z : ◌≡◌ {A = ℕ} 0 1 = cc in omega arith

module _ (ps : List Place) where
  pub told_none : (ks : List Link) (s : Roots) → borrow_end_of ks s ≡ end.None → borrow_end ks ps ≡ no_borrow
  unfolding borrow_end_of borrow_end
  told_none [] s e = refl
  told_none (boxed ∷ ks) s e = told_none ks s e
  told_none (shared ∷ ks) s e = absurd (none≢shared (sym e))
  told_none (exclusive ∷ ks) s e = absurd (none≢exclusive (sym e))

  pub told_shared : (ks : List Link) (s t : Roots) → borrow_end_of ks s ≡ end.Shared t → (t ≡ s) × (borrow_end ks ps ≡ shared_of ps)
  unfolding borrow_end_of borrow_end
  told_shared [] s t e = absurd (none≢shared e)
  told_shared (boxed ∷ ks) s t e = told_shared ks s t e
  told_shared (shared ∷ ks) s t e = (cc, refl)
  told_shared (exclusive ∷ ks) s t e = absurd (shared≢exclusive (sym e))

  pub told_exclusive : (ks : List Link) (s t : Roots) → borrow_end_of ks s ≡ end.Exclusive t → (t ≡ s) × (borrow_end ks ps ≡ exclusive_of ps)
  unfolding borrow_end_of borrow_end
  told_exclusive [] s t e = absurd (none≢exclusive e)
  told_exclusive (boxed ∷ ks) s t e = told_exclusive ks s t e
  told_exclusive (shared ∷ ks) s t e = absurd (shared≢exclusive e)
  told_exclusive (exclusive ∷ ks) s t e = (cc, refl)

-- The same in the rules' terms, with the places that a set of roots stands for.
pub told_as : (f : Roots → List Place) (ks : List Link) (s : Roots) → as_borrow f (borrow_end_of ks s) ≡ borrow_end ks (f s)
unfolding borrow_end_of borrow_end as_borrow
told_as f [] s = refl
told_as f (boxed ∷ ks) s = told_as f ks s
told_as f (shared ∷ ks) s = refl
told_as f (exclusive ∷ ks) s = refl

-- A state whose end is that of its links, in the rules' terms.
pub told_variable : (env : List Row) (links d : ℕ) (s : Roots) (level : ℕ)
    → as_variable env (record { links = links; moved_from = d; borrow_end = borrow_end_of (chain_of links) s; level = level }) ≡ variable_of env links d s level
told_variable env links d s level =
    ap (λ (b : Borrow). record { chain = chain_of links; moved_from = d; borrow = b; level = level }) (told_as (places_in env (chain_of links)) (chain_of links) s)

-- Without a borrow link all links are boxes.
pub none_boxed : (ks : List Link) (s : Roots) → borrow_end_of ks s ≡ end.None → length ks ≡ leading_boxes ks
unfolding borrow_end_of leading_boxes
none_boxed [] s e = refl
none_boxed (boxed ∷ ks) s e = let z = none_boxed ks s e in omega arith
none_boxed (shared ∷ ks) s e = absurd (none≢shared (sym e))
none_boxed (exclusive ∷ ks) s e = absurd (none≢exclusive (sym e))

pub boxed_none : (ks : List Link) (s : Roots) → length ks ≡ leading_boxes ks → borrow_end_of ks s ≡ end.None
unfolding borrow_end_of leading_boxes
boxed_none [] s e = refl
boxed_none (boxed ∷ ks) s e = boxed_none ks s (omega arith)
boxed_none (shared ∷ ks) s e = absurd (omega arith)
boxed_none (exclusive ∷ ks) s e = absurd (omega arith)

-- Its own roots give it again.
pub end_fits : (ks : List Link) (s : Roots) → borrow_end_of ks s ≡ borrow_end_of ks (end_roots (borrow_end_of ks s))
unfolding borrow_end_of end_roots
end_fits [] s = refl
end_fits (boxed ∷ ks) s = end_fits ks s
end_fits (shared ∷ ks) s = refl
end_fits (exclusive ∷ ks) s = refl

-- Roots of which none are looked at may as well be none.
pub end_own : (f : Roots → List Place) (ks : List Link) (s : Roots) → borrow_end ks (f (end_roots (borrow_end_of ks s))) ≡ borrow_end ks (f s)
unfolding borrow_end_of borrow_end end_roots
end_own f [] s = refl
end_own f (boxed ∷ ks) s = end_own f ks s
end_own f (shared ∷ ks) s = refl
end_own f (exclusive ∷ ks) s = refl

-- ---- the places

nothing_in : (ps : List Place) → ((q : Place) → Among q ps → ⊥) → ps ≡ []
nothing_in [] h = refl
nothing_in (p ∷ ps) h = absurd (h p (inl refl))

-- No roots, no places.
pub no_places : (n : ℕ) (f : ℕ → Bool) (long : ℕ → ℕ) (m : ℕ) → ((x : ℕ) → f x ≡ false) → places_of n f long m ≡ []
unfolding places_of
no_places n f long m h =
    nothing_in (places_from f long m 0 n) (λ q i. let k = from_out f long m 0 n q i in false≢true (sym (h q.root) ∙ k.2))

-- With a borrow link the end has all places given.
pub linked_places : (ks : List Link) (ps : List Place) → leading_boxes ks < length ks → places (borrow_end ks ps) ≡ ps
unfolding leading_boxes borrow_end
linked_places [] ps h = absurd (omega arith)
linked_places (boxed ∷ ks) ps h = linked_places ks ps (omega arith)
linked_places (shared ∷ ks) ps h = refl
linked_places (exclusive ∷ ks) ps h = refl

-- The roots of the places of a set are the set, whatever the number: none from 128 on is in either.
pub rooted_in_set : (s : Roots) (long : ℕ → ℕ) (m x : ℕ) → rooted (places_of 128 (has s) long m) x ≡ has s x
rooted_in_set s long m x = rooted_places (has s) long m 128 x (has_below s x)

module _ (env : List Row) (ks : List Link) (s : Roots) where
  pub end_rooted : (x : ℕ) → leading_boxes ks < length ks → rooted (places (end_in env ks s)) x ≡ has s x
  end_rooted x h = ap (λ (ps : List Place). rooted ps x) (linked_places ks (places_in env ks s) h) ∙ rooted_in_set s (long_at env) (left ks) x

  -- With or without a borrow link, what the end has a root of is in the set.
  pub end_in_set : (x : ℕ) → rooted (places (end_in env ks s)) x ≡ true → has s x ≡ true
  end_in_set x h =
      let k = rooted_out (places (end_in env ks s)) x h in
      sym (rooted_in_set s (long_at env) (left ks) x) ∙ ap (rooted (places_in env ks s)) (sym k.2) ∙ rooted_in k.0 (places_in env ks s) (end_out ks (places_in env ks s) k.0 k.1)

-- ---- the roots that something records

-- f gives the places of a set of roots, none of none.
pub recorded : (f : Roots → List Place) → f (record { low = 0; high = 0 }) ≡ [] → (ks : List Link) (s : Roots) → places (borrow_end ks (f s)) ≡ f (end_roots (borrow_end_of ks s))
unfolding borrow_end borrow_end_of end_roots
recorded f none [] s = sym none
recorded f none (boxed ∷ ks) s = recorded f none ks s
recorded f none (shared ∷ ks) s = refl
recorded f none (exclusive ∷ ks) s = refl

pub recorded_by : (ks : List Link) (s r : Roots) (e : BorrowEnd) → e ≡ borrow_end_of ks s → r ≡ end_roots e → (env : List Row) → places (end_in env ks s) ≡ places_in env ks r
recorded_by ks s r e told read env =
    recorded (places_in env ks) (no_places 128 (has (record { low = 0; high = 0 })) (long_at env) (left ks) in_none) ks s
    ∙ ap (λ (k : BorrowEnd). places_in env ks (end_roots k)) (sym told)
    ∙ ap (places_in env ks) (sym read)
