-- The search for one in use that holds a borrow of a root (LANGUAGE 3.34): from those named later that may lead to the root, to what each holds
-- among these. Assumes nothing.
use Prim.Native.Nat.{ℕ, ◌<◌}
use mathlib.Core.Path.{◌≡◌, refl, sym, ap, ◌∙◌}
use mathlib.Core.Bool.{Bool, true, false, not, false≢true, true≢false}
use mathlib.Core.List.{List}
use lib.Dec.{ltb, eqb}
use borrow.Author.Tests.{ltb-true, lt-ltb, not-true}
use Rattle.syntax.specs.Result.{pick}
use Rattle.bars.specs.declared.bars.Leading.{Leading}
use Rattle.variables.specs.declared.table.Row.{Row}
use Rattle.variables.specs.declared.roots.Roots.{Roots}
use Rattle.statics.specs.Uses.{Unfinished, named_later}
use Rattle.statics.specs.Bars.{borrows_any, held_by, held, in_use}
use Rattle.variables.specs.Masks.{has}
use Rattle.variables.specs.Table.{environment_of, TableFor}
use Rattle.bars.specs.declared.bars.Borrows.{Borrows}
use Rattle.bars.specs.declared.bars.Borrows.TheVariants as borrows
use Rattle.bars.specs.Held.{borrows_by, MayHold}
use Rattle.bars.specs.Leading.{LeadingTo}
use Rattle.statics.proofs.Answers.{same_bool}
use Rattle.statics.proofs.InUse.{holder_counts, held_some, in_use_named, in_use_held, in_use_least}
use Rattle.statics.proofs.ClosureLoop.{count, waiting}
use Rattle.statics.proofs.SetSearch.{Search, no_more, search_begins, search_next}
use Rattle.variables.proofs.MaskLaws.{has_below}
use Rattle.bars.proofs.HeldLaws.{held_recorded}
use Rattle.bars.proofs.LeadingLaws.{both_of, both_in, scope_low}

-- New members of a set that are among others.
among : (m h a : Bool) → pick (pick m false h) a false ≡ pick m false (pick h a false)
among true h a = refl
among false h a = refl

-- x holds y, which is one of these.
abbrev holding_among : List Row → Roots → ℕ → ℕ → Bool
holding_among env these x y = pick (held_by (borrows_by borrows.Any) (environment_of env x) y) (has these y) false

-- The named are met, and of these whatever one holds that is met and no longer to do; none that is no longer to do holds such a borrow of the root.
pub record Seeking (env : List Row) (which : Borrows) (root : ℕ) (these first met todo : Roots) : Type 0 where
  pub search : Search (has first) (holding_among env these) (λ x. not (held_by (borrows_by which) (environment_of env x) root)) (λ _. false) (has met) (has todo) (λ _. false)

module _ (env : List Row) (n : ℕ) (T : TableFor env n) (which : Borrows) (root : ℕ) (may : Roots) (M : MayHold env which root may) (named : ℕ → Bool) (near : Leading) (L : LeadingTo env root may named near) where
  pub seek_begins : Seeking env which root near.all near.named near.named near.named
  seek_begins = record {
    search = search_begins (has near.named) (holding_among env near.all) (λ x. not (held_by (borrows_by which) (environment_of env x) root)) (λ _. false) (has near.named) (λ _. false) (λ y. refl) (λ y. refl);
  }

  module _ (met todo : Roots) (S : Seeking env which root near.all near.named met todo) where
    module _ (ns : Unfinished) (later : (x : ℕ) → x < n → named_later ns x ≡ named x) where
      abbrev in_use_here : ℕ → Bool
      in_use_here = in_use n ns (environment_of env)

      abbrev Barred : Bool
      Barred = held (borrows_by which) in_use_here n (environment_of env) root

      near_low : (x : ℕ) → has near.all x ≡ true → x < n
      near_low x h = scope_low env n T x (L.scoped x h)

      -- All that are met are in use.
      used : (x : ℕ) → has met x ≡ true → (x < n) × (in_use_here x ≡ true)
      unfolding borrows_by
      used x h =
          let k = both_of (ltb x n) (in_use_here x) (S.search.meeting.least (λ y. pick (ltb y n) (in_use_here y) false) first_used_law held_used x h) in
          (ltb-true x n k.0, k.1)
        where
          put : (y : ℕ) → y < n → in_use_here y ≡ true → pick (ltb y n) (in_use_here y) false ≡ true
          put y l u = both_in (ltb y n) (in_use_here y) (lt-ltb y n l) u

          first_used_law : (y : ℕ) → has near.named y ≡ true → pick (ltb y n) (in_use_here y) false ≡ true
          first_used_law y k =
              let b = both_of (has near.all y) (named y) (sym (L.named_are y) ∙ k) in
              let l = near_low y b.0 in
              put y l (in_use_named n ns (environment_of env) y l (later y l ∙ b.1))

          held_used : (y z : ℕ) → pick (ltb y n) (in_use_here y) false ≡ true → holding_among env near.all y z ≡ true → pick (ltb z n) (in_use_here z) false ≡ true
          held_used y z u k =
              let a = both_of (ltb y n) (in_use_here y) u in
              let b = both_of (held_by (borrows_by borrows.Any) (environment_of env y) z) (has near.all z) k in
              let l = near_low z b.1 in
              put z l (in_use_held n ns (environment_of env) y z (ltb-true y n a.0) l b.0 a.1)

      pub seek_found : (x : ℕ) → has todo x ≡ true → held_by (borrows_by which) (environment_of env x) root ≡ true → true ≡ Barred
      seek_found x h k =
          let u = used x (S.search.meeting.inside x h) in
          sym (holder_counts (borrows_by which) in_use_here (environment_of env) root n x u.0 k u.1)

      -- Where nothing is left to do, all in use that may lead to the root are met: who holds one of these is one of these.
      module _ (none : (y : ℕ) → has todo y ≡ false) where
        all_met : (x : ℕ) → in_use_here x ≡ true → has near.all x ≡ true → has met x ≡ true
        unfolding borrows_by
        all_met = in_use_least n ns (environment_of env) (λ x. has near.all x ≡ true → has met x ≡ true)
            (λ x e a. S.search.meeting.start x (L.named_are x ∙ both_in (has near.all x) (named x) a (sym (later x (near_low x a)) ∙ e)))
            (λ y x l k p a. S.search.meeting.added y x (p (L.closed x y a (held_recorded env borrows.Any y x k))) (none y) (both_in (held_by borrows_any (environment_of env y) x) (has near.all x) k a))

        pub seek_over : false ≡ Barred
        seek_over = same_bool false Barred (λ q. absurd (false≢true q)) (λ b.
            let h = held_some (borrows_by which) in_use_here (environment_of env) root n b in
            let a = L.start h.0 (M h.0 h.2) (held_recorded env which h.0 root h.2) in
            absurd (true≢false (sym h.2 ∙ not-true (held_by (borrows_by which) (environment_of env h.0) root) (S.search.passed h.0 (all_met h.0 h.3 a) (none h.0)))))

    -- The variable x, which holds no such borrow of the root, has been looked at: what it holds among these and is not met yet is added.
    module _ (x : ℕ) (h : has todo x ≡ true) (r : Bool) (asked : r ≡ held_by (borrows_by which) (environment_of env x) root) (unheld : r ≡ false) (holds new more met' todo₁ todo' : Roots)
        (holds-is : (y : ℕ) → has holds y ≡ held_by (borrows_by borrows.Any) (environment_of env x) y) (New-is : (y : ℕ) → has new y ≡ pick (has met y) false (has holds y))
        (more_is : (y : ℕ) → has more y ≡ pick (has new y) (has near.all y) false) (met-is : (y : ℕ) → has met' y ≡ pick (has met y) true (has more y))
        (less-is : (y : ℕ) → has todo₁ y ≡ pick (eqb x y) false (has todo y)) (todo-is : (y : ℕ) → has todo' y ≡ pick (has todo₁ y) true (has more y)) where
      held_more : (y : ℕ) → has more y ≡ pick (has met y) false (holding_among env near.all x y)
      held_more y =
          more_is y
          ∙ ap (λ (a : Bool). pick a (has near.all y) false) (New-is y ∙ ap (λ (b : Bool). pick (has met y) false b) (holds-is y))
          ∙ among (has met y) (held_by (borrows_by borrows.Any) (environment_of env x) y) (has near.all y)

      seek_next : Search (has near.named) (holding_among env near.all) (λ y. not (held_by (borrows_by which) (environment_of env y) root)) (λ _. false) (has met') (has todo') (λ _. false)
          × (count (waiting (has met') (has todo')) 128 < count (waiting (has met) (has todo)) 128)
      seek_next = search_next (has near.named) (holding_among env near.all) (λ y. not (held_by (borrows_by which) (environment_of env y) root)) (λ _. false) (has met) (has todo) (λ _. false) S.search x h (has todo₁) less-is (holding_among env near.all x) (λ y. refl) (has more) held_more (has met') (has todo') (λ _. false) met-is todo-is (ap not (sym asked ∙ unheld)) (λ y. no_more false (eqb x y) false refl) 128 (has_below todo x h)

      pub seek_round : Seeking env which root near.all near.named met' todo' × (count (waiting (has met') (has todo')) 128 < count (waiting (has met) (has todo)) 128)
      seek_round = (record { search = seek_next.0 }, seek_next.1)
