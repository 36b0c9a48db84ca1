-- All that may lead to a root (LANGUAGE 3.34): who records a place with that root, who records a place with one of these, and so on. What the
-- loop keeps, what a round does, where it ends. Assumes nothing.
use Prim.Native.Nat.{ℕ, suc, ◌+◌, ◌*◌, ◌≤◌, ◌<◌}
use native.Mathlib.Omega.{arith}
use mathlib.Core.Path.{◌≡◌, refl, sym, ap, ap₂, ◌∙◌, subst}
use mathlib.Core.Logic.{◌⊎◌, inl, inr, ⊎_elim}
use mathlib.Core.Bool.{Bool, true, false, not, false≢true, true≢false}
use mathlib.Core.List.{List}
use lib.Dec.{eqb}
use borrow.Author.Tests.{leb-true, le-leb, eqb-true, eq-eqb, ne_eqb}
use Rattle.syntax.specs.Result.{pick}
use Rattle.bars.specs.declared.bars.Leading.{Leading}
use Rattle.variables.specs.declared.table.Row.{Row}
use Rattle.variables.specs.declared.roots.Roots.{Roots}
use Rattle.variables.specs.Masks.{has}
use Rattle.variables.specs.Table.{entry_word, roots_at, holders_at, variable_at, TableFor, InScope}
use Rattle.bars.specs.Leading.{Records, LeadingTo}
use Rattle.statics.proofs.ClosureLoop.{count, count_less, count_most}
use Rattle.statics.proofs.SetSearch.{so_far, no_more}
use Rattle.variables.proofs.MaskLaws.{has_below}
use Rattle.variables.proofs.EntryLaws.{status_live, live_inside}
use Rattle.bars.proofs.HeldLaws.{recorded_noted}

pub both_of : (a b : Bool) → pick a b false ≡ true → (a ≡ true) × (b ≡ true)
both_of true b h = (refl, h)
both_of false b h = absurd (false≢true h)

pub both_in : (a b : Bool) → a ≡ true → b ≡ true → pick a b false ≡ true
both_in a b e f = ap₂ (λ (c d : Bool). pick c d false) e f

-- Those still to be looked at and those found are apart. Who records the root, or one that is found, is found or still to be looked at; of those
-- found, the named are known.
pub record Gathering (env : List Row) (root : ℕ) (these : Roots) (named : ℕ → Bool) (all towards left found : Roots) : Type 0 where
  pub scoped : InScope env all
  pub waiting : InScope env left
  pub apart : (y : ℕ) → has left y ≡ true → has all y ≡ false
  pub goals : (y : ℕ) → has towards y ≡ pick (eqb root y) true (has all y)
  pub start : (y : ℕ) → has these y ≡ true → Records env y root → (has all y ≡ true) ⊎ (has left y ≡ true)
  pub closed : (x y : ℕ) → has all x ≡ true → Records env y x → (has all y ≡ true) ⊎ (has left y ≡ true)
  pub named_are : (y : ℕ) → has found y ≡ pick (has all y) (named y) false

-- How many steps are left: one that is found adds at most 128 to be looked at.
unfoldable pub steps : Roots → Roots → ℕ
steps all left = count (λ y. not (has all y)) 128 * 129 + count (has left) 128

either_in : (a b : Bool) → (a ≡ true) ⊎ (b ≡ true) → pick a true b ≡ true
either_in true b h = refl
either_in false b (inl e) = absurd (false≢true e)
either_in false b (inr e) = e

either_of : (a b : Bool) → pick a true b ≡ true → (a ≡ true) ⊎ (b ≡ true)
either_of true b e = inl refl
either_of false b e = inr e

module _ (env : List Row) (n : ℕ) (T : TableFor env n) where
  in_scope : (y : ℕ) → has (roots_at env (suc n)) y ≡ true → 2 ≤ entry_word env y 0
  in_scope y h = leb-true 2 (entry_word env y 0) (sym (T.2.scope y) ∙ h)

  scoped_in : (y : ℕ) → 2 ≤ entry_word env y 0 → has (roots_at env (suc n)) y ≡ true
  scoped_in y l = T.2.scope y ∙ le-leb 2 (entry_word env y 0) l

  -- Who is in scope is a variable of the table.
  pub scope_low : (y : ℕ) → 2 ≤ entry_word env y 0 → y < n
  scope_low y h = live_inside env n T y (variable_at env y) (status_live env y h)

  module _ (root : ℕ) (these : Roots) (named : ℕ → Bool) (scope : Roots) (scope-is : scope ≡ roots_at env (suc n)) where
    of_scope : (y : ℕ) → has scope y ≡ true → 2 ≤ entry_word env y 0
    of_scope y h = in_scope y (ap (λ (s : Roots). has s y) (sym scope-is) ∙ h)

    to_scope : (y : ℕ) → 2 ≤ entry_word env y 0 → has scope y ≡ true
    to_scope y l = ap (λ (s : Roots). has s y) scope-is ∙ scoped_in y l

    pub gather_begins : (may : Roots) → ((y : ℕ) → has these y ≡ pick (has may y) (has scope y) false) → (all towards found : Roots) → ((y : ℕ) → has all y ≡ false) → ((y : ℕ) → has towards y ≡ eqb root y)
        → ((y : ℕ) → has found y ≡ false) → Gathering env root these named all towards these found
    gather_begins may e all towards found ae te fe = record {
      scoped = λ y h. absurd (false≢true (sym (ae y) ∙ h));
      waiting = λ y h. of_scope y (both_of (has may y) (has scope y) (sym (e y) ∙ h)).1;
      apart = λ y h. ae y;
      goals = λ y. te y ∙ alone (eqb root y) (has all y) (ae y);
      start = λ y h r. inr h;
      closed = λ x y h r. absurd (false≢true (sym (ae x) ∙ h));
      named_are = λ y. fe y ∙ nothing (has all y) (named y) (ae y);
    }
      where
        alone : (q a : Bool) → a ≡ false → q ≡ pick q true a
        alone true a e = refl
        alone false a e = sym e

        nothing : (a b : Bool) → a ≡ false → false ≡ pick a b false
        nothing true b e = absurd (true≢false e)
        nothing false b e = refl

    module _ (all towards left found : Roots) (G : Gathering env root these named all towards left found) where
      pub left_low : (x : ℕ) → has left x ≡ true → x < n
      left_low x h = scope_low x (G.waiting x h)

      module _ (x : ℕ) (h : has left x ≡ true) (left₁ : Roots) (less-is : (y : ℕ) → has left₁ y ≡ pick (eqb x y) false (has left y)) where
        less_in : (y : ℕ) → has left₁ y ≡ true → (has left y ≡ true) × (eqb x y ≡ false)
        less_in y k = go (eqb x y) (sym (less-is y) ∙ k)
          where
            go : (q : Bool) → pick q false (has left y) ≡ true → (has left y ≡ true) × (q ≡ false)
            go true e = absurd (false≢true e)
            go false e = (e, refl)

        -- What was still to be looked at is x, or still is.
        less_out : (y : ℕ) → has left y ≡ true → (x ≡ y) ⊎ (has left₁ y ≡ true)
        less_out y k = go (eqb x y) refl
          where
            go : (q : Bool) → eqb x y ≡ q → (x ≡ y) ⊎ (has left₁ y ≡ true)
            go true e = inl (eqb-true x y e)
            go false e = inr (less-is y ∙ ap (λ (b : Bool). pick b false (has left y)) e ∙ k)

        fewer_left : count (has left₁) 128 < count (has left) 128
        fewer_left =
            let e = count_less (has left) (has left₁) 128 x (has_below left x h) h (less-is x ∙ ap (λ (b : Bool). pick b false (has left x)) (eq-eqb x x refl)) (λ z q. sym (less-is z ∙ ap (λ (b : Bool). pick b false (has left z)) (ne_eqb x z (λ k. q (sym k))))) in
            omega (arith, e)

        -- It records neither the root nor one that is found.
        module _ (roots both : Roots) (roots-is : roots ≡ roots_at env x) (both_is : (y : ℕ) → has both y ≡ pick (has roots y) (has towards y) false) (none : (y : ℕ) → has both y ≡ false) where
          unrecorded : (y : ℕ) → has towards y ≡ true → Records env x y → ⊥
          unrecorded y t r = false≢true (sym (none y) ∙ both_is y ∙ both_in (has roots y) (has towards y) (ap (λ (s : Roots). has s y) roots-is ∙ r.1) t)

          towards_root : has towards root ≡ true
          towards_root = G.goals root ∙ ap (λ (b : Bool). pick b true (has all root)) (eq-eqb root root refl)

          towards_all : (y : ℕ) → has all y ≡ true → has towards y ≡ true
          towards_all y a = G.goals y ∙ either_in (eqb root y) (has all y) (inr a)

          skips : Gathering env root these named all towards left₁ found
          skips = record {
            scoped = G.scoped;
            waiting = λ y k. G.waiting y (less_in y k).0;
            apart = λ y k. G.apart y (less_in y k).0;
            goals = G.goals;
            start = λ y k r. still y root towards_root r (G.start y k r);
            closed = λ z y k r. still y z (towards_all z k) r (G.closed z y k r);
            named_are = G.named_are;
          }
            where
              still : (y z : ℕ) → has towards z ≡ true → Records env y z → (has all y ≡ true) ⊎ (has left y ≡ true) → (has all y ≡ true) ⊎ (has left₁ y ≡ true)
              still y z t r (inl a) = inl a
              still y z t r (inr l) = ⊎_elim (λ e. absurd (unrecorded z t (subst (λ (w : ℕ). Records env w z) (sym e) r))) (λ k. inr k) (less_out y l)

          pub gather_skips : Gathering env root these named all towards left₁ found × (steps all left₁ < steps all left)
          unfolding steps
          gather_skips = (skips, omega (arith, fewer_left))

        -- It is found: who is noted for it and not found yet is to be looked at.
        module _ (one : Roots) (one-is : (y : ℕ) → has one y ≡ eqb x y) (r : Bool) (asked : r ≡ named x) (found' all' towards' holders unmet more left' : Roots)
            (found-is : ((r ≡ true) × ((y : ℕ) → has found' y ≡ pick (has found y) true (has one y))) ⊎ ((r ≡ false) × (found' ≡ found)))
            (all-is : (y : ℕ) → has all' y ≡ pick (has all y) true (has one y)) (towards-is : (y : ℕ) → has towards' y ≡ pick (has towards y) true (has one y)) (holders-is : holders ≡ holders_at env x)
            (unmet-is : (y : ℕ) → has unmet y ≡ pick (has all' y) false (has holders y)) (more_is : (y : ℕ) → has more y ≡ pick (has unmet y) (has scope y) false)
            (left_is : (y : ℕ) → has left' y ≡ pick (has left₁ y) true (has more y)) where
          now_all : (y : ℕ) → has all' y ≡ pick (has all y) true (eqb x y)
          now_all y = all-is y ∙ ap (λ (b : Bool). pick (has all y) true b) (one-is y)

          all_in : (y : ℕ) → (has all y ≡ true) ⊎ (x ≡ y) → has all' y ≡ true
          all_in y k = now_all y ∙ either_in (has all y) (eqb x y) (⊎_elim (λ a. inl a) (λ e. inr (eq-eqb x y e)) k)

          all_of : (y : ℕ) → has all' y ≡ true → (has all y ≡ true) ⊎ (x ≡ y)
          all_of y k = ⊎_elim (λ a. inl a) (λ e. inr (eqb-true x y e)) (either_of (has all y) (eqb x y) (sym (now_all y) ∙ k))

          more_of : (y : ℕ) → has more y ≡ true → (has all' y ≡ false) × (has scope y ≡ true)
          more_of y k =
              let b = both_of (has unmet y) (has scope y) (sym (more_is y) ∙ k) in
              (out (has all' y) (has holders y) (sym (unmet-is y) ∙ b.0), b.1)
            where
              out : (a b : Bool) → pick a false b ≡ true → a ≡ false
              out true b e = absurd (false≢true e)
              out false b e = refl

          -- Who records x is found, or is to be looked at.
          recorded_in : (y : ℕ) → Records env y x → (has all' y ≡ true) ⊎ (has left' y ≡ true)
          recorded_in y q = go (has all' y) refl
            where
              noted : has holders y ≡ true
              noted = ap (λ (s : Roots). has s y) holders-is ∙ (recorded_noted env n x T (left_low x h) y q).1

              go : (b : Bool) → has all' y ≡ b → (b ≡ true) ⊎ (has left' y ≡ true)
              go true e = inl refl
              go false e = inr (left_is y ∙ either_in (has left₁ y) (has more y) (inr (more_is y ∙ both_in (has unmet y) (has scope y) (unmet-is y ∙ ap₂ (λ (a b : Bool). pick a false b) e noted) (to_scope y q.0))))

          kept : (y : ℕ) → (has all y ≡ true) ⊎ (has left y ≡ true) → (has all' y ≡ true) ⊎ (has left' y ≡ true)
          kept y (inl a) = inl (all_in y (inl a))
          kept y (inr l) = ⊎_elim (λ e. inl (all_in y (inr e))) (λ k. inr (left_is y ∙ either_in (has left₁ y) (has more y) (inl k))) (less_out y l)

          found_next : (y : ℕ) → has found' y ≡ pick (has all' y) (named y) false
          found_next y = go found-is ∙ ap (λ (b : Bool). pick b (named y) false) (sym (now_all y))
            where
              same : (q : Bool) → eqb x y ≡ q → pick q (named x) false ≡ pick q (named y) false
              same true e = ap named (eqb-true x y e)
              same false e = refl

              join : (a q b : Bool) → pick (pick a b false) true (pick q b false) ≡ pick (pick a true q) b false
              join true q true = refl
              join true true false = refl
              join true false false = refl
              join false q b = refl

              both : pick (has found y) true (pick (eqb x y) (named x) false) ≡ pick (pick (has all y) true (eqb x y)) (named y) false
              both = ap₂ (λ (a b : Bool). pick a true b) (G.named_are y) (same (eqb x y) refl) ∙ join (has all y) (eqb x y) (named y)

              go : ((r ≡ true) × ((z : ℕ) → has found' z ≡ pick (has found z) true (has one z))) ⊎ ((r ≡ false) × (found' ≡ found)) → has found' y ≡ pick (pick (has all y) true (eqb x y)) (named y) false
              go (inl k) = k.1 y ∙ ap (λ (b : Bool). pick (has found y) true b) (one-is y ∙ so_far (eqb x y) (named x) (sym asked ∙ k.0)) ∙ both
              go (inr k) = ap (λ (s : Roots). has s y) k.1 ∙ no_more (has found y) (eqb x y) (named x) (sym asked ∙ k.0) ∙ both

          finds : Gathering env root these named all' towards' left' found'
          finds = record {
            scoped = λ y k. ⊎_elim (λ a. G.scoped y a) (λ e. subst (λ (w : ℕ). 2 ≤ entry_word env w 0) e (G.waiting x h)) (all_of y k);
            waiting = λ y k. ⊎_elim (λ l. G.waiting y (less_in y l).0) (λ m. of_scope y (more_of y m).1) (either_of (has left₁ y) (has more y) (sym (left_is y) ∙ k));
            apart = λ y k. ⊎_elim (λ l. apart_still y (less_in y l)) (λ m. (more_of y m).0) (either_of (has left₁ y) (has more y) (sym (left_is y) ∙ k));
            goals = λ y. towards-is y ∙ ap₂ (λ (a b : Bool). pick a true b) (G.goals y) (one-is y) ∙ regroup (eqb root y) (has all y) (eqb x y) ∙ ap (λ (b : Bool). pick (eqb root y) true b) (sym (now_all y));
            start = λ y k q. kept y (G.start y k q);
            closed = λ z y k q. ⊎_elim (λ a. kept y (G.closed z y a q)) (λ e. recorded_in y (subst (λ (w : ℕ). Records env y w) (sym e) q)) (all_of z k);
            named_are = found_next;
          }
            where
              apart_still : (y : ℕ) → (has left y ≡ true) × (eqb x y ≡ false) → has all' y ≡ false
              apart_still y k = now_all y ∙ ap₂ (λ (a b : Bool). pick a true b) (G.apart y k.0) k.1

              regroup : (a b c : Bool) → pick (pick a true b) true c ≡ pick a true (pick b true c)
              regroup true b c = refl
              regroup false b c = refl

          pub gather_finds : Gathering env root these named all' towards' left' found' × (steps all' left' < steps all left)
          unfolding steps
          gather_finds =
              let e = count_less (λ y. not (has all y)) (λ y. not (has all' y)) 128 x (has_below left x h) (ap not (G.apart x h)) (ap not (all_in x (inr refl))) (λ z q. sym (ap not (now_all z ∙ ap (λ (b : Bool). pick (has all z) true b) (ne_eqb x z (λ k. q (sym k))) ∙ plain (has all z)))) in
              let m = count_most (has left') 128 in
              (finds, omega (arith, e, m))
            where
              plain : (b : Bool) → pick b true false ≡ b
              plain true = refl
              plain false = refl

      pub gather_over : (may : Roots) → ((y : ℕ) → has these y ≡ pick (has may y) (has scope y) false) → ((y : ℕ) → has left y ≡ false) → (r : Leading) → r.all ≡ all → r.named ≡ found → LeadingTo env root may named r
      gather_over may e none r ra rn = record {
        scoped = λ y h. G.scoped y (ap (λ (s : Roots). has s y) (sym ra) ∙ h);
        start = λ y h q. ap (λ (s : Roots). has s y) ra ∙ done y (G.start y (e y ∙ both_in (has may y) (has scope y) h (to_scope y q.0)) q);
        closed = λ x y h q. ap (λ (s : Roots). has s y) ra ∙ done y (G.closed x y (ap (λ (s : Roots). has s x) (sym ra) ∙ h) q);
        named_are = λ y. ap (λ (s : Roots). has s y) rn ∙ G.named_are y ∙ ap (λ (s : Roots). pick (has s y) (named y) false) (sym ra);
      }
        where
          done : (y : ℕ) → (has all y ≡ true) ⊎ (has left y ≡ true) → has all y ≡ true
          done y (inl a) = a
          done y (inr l) = absurd (false≢true (sym (none y) ∙ l))
