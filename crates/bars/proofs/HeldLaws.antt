-- Who holds a borrow of a root: by the words of its entry, and by the note of the root, outside which no variable holds one. Assumes nothing.
use Prim.Native.Nat.{ℕ, suc, ◌<◌, ◌≤◌}
use mathlib.Core.Path.{◌≡◌, refl, sym, ap, ap₂, ◌∙◌}
use mathlib.Core.Bool.{Bool, true, false, false≢true}
use mathlib.Core.List.{List, [], ◌∷◌}
use lib.Dec.{ltb}
use borrow.Author.Tests.{le-leb, le-ltb, lt-ltb}
use Rattle.syntax.specs.Result.{pick}
use Rattle.syntax.specs.Script.{Place}
use Rattle.variables.specs.declared.table.Row.{Row}
use Rattle.variables.specs.declared.roots.Roots.{Roots}
use Rattle.variables.specs.declared.table.VariableState.{VariableState}
use Rattle.variables.specs.declared.table.Entry.{Entry}
use Rattle.variables.specs.declared.table.Entry.TheVariants as entry
use Rattle.variables.specs.declared.table.BorrowEnd.{BorrowEnd}
use Rattle.variables.specs.declared.table.BorrowEnd.TheVariants as end
use Rattle.statics.specs.Links.{Link, boxed, shared, exclusive, leading_boxes}
use Rattle.statics.specs.Places.{some_of, rooted}
use Rattle.statics.specs.Environment.{Borrow, no_borrow, shared_of, exclusive_of, places, borrow_end, Variable, Slot, live, holding}
use Rattle.statics.specs.Bars.{borrows_any, borrows_exclusive, held_by}
use Rattle.statics.specs.Roots.{left}
use Rattle.variables.specs.Chains.{chain_of, is_exclusive}
use Rattle.variables.specs.Masks.{has}
use Rattle.variables.specs.Table.{entry_word, links_at, long_at, roots_at, holders_at, places_in, end_in, borrow_end_of, state_at, entry_at, variable_at, environment_of, TableFor}
use Rattle.bars.specs.declared.bars.Borrows.{Borrows}
use Rattle.bars.specs.declared.bars.Borrows.TheVariants as borrows
use Rattle.bars.specs.Held.{borrows_by, MayHold}
use Rattle.bars.specs.Leading.{Records}
use Rattle.statics.proofs.InUse.{held_out}
use Rattle.variables.proofs.EntryLaws.{NotLive, status_live, live_status, live_inside, slot_live, not_live}
use Rattle.variables.proofs.EndLaws.{told_none, told_shared, told_exclusive, rooted_in_set, end_in_set}

-- ---- one number

-- A borrow of either sort is of a root of the places.
borrows_rooted : (which : Borrows) (b : Borrow) (x : ℕ) → borrows_by which b x ≡ true → rooted (places b) x ≡ true
unfolding borrows_by borrows_any borrows_exclusive
borrows_rooted borrows.Any b x e = e
borrows_rooted borrows.Exclusive no_borrow x e = absurd (false≢true e)
borrows_rooted borrows.Exclusive (shared_of ps) x e = absurd (false≢true e)
borrows_rooted borrows.Exclusive (exclusive_of ps) x e = e

module _ (env : List Row) (x root : ℕ) where
  pub unheld : (h : Borrow → ℕ → Bool) → ((v : Variable) → environment_of env x ≡ live v → h v.borrow root ≡ true → ⊥) → false ≡ held_by h (environment_of env x) root
  unheld h none = sym (go (held_by h (environment_of env x) root) refl)
    where
      go : (b : Bool) → held_by h (environment_of env x) root ≡ b → b ≡ false
      go true k = let o = held_out h (environment_of env x) root k in absurd (none o.0 o.1 o.2)
      go false k = refl

-- By what the code loads of it.
module _ (env : List Row) (x root : ℕ) (which : Borrows) (e : Entry) (loaded : e ≡ entry_at env x) where
  abbrev Holds : Bool
  Holds = held_by (borrows_by which) (environment_of env x) root

  pub dead_held : NotLive e → false ≡ Holds
  dead_held h = unheld env x root (borrows_by which) (λ v k b. not_live env x e loaded h v k)

  module _ (v : VariableState) (is : e ≡ entry.Live v) (boxes : ℕ) (be : boxes ≡ leading_boxes (chain_of v.links)) where
    abbrev ks : List Link
    ks = chain_of (links_at env x)

    abbrev ps : List Place
    ps = places_in env ks (roots_at env x)

    abbrev borrowed : Bool
    borrowed = borrows_by which (end_in env ks (roots_at env x)) root

    state_is_law : v ≡ state_at env x
    state_is_law = (slot_live env x e loaded v is).1

    held_is : Holds ≡ pick (ltb boxes v.moved_from) borrowed false
    unfolding held_by holding state_at
    held_is =
        ap (λ (sl : Slot). held_by (borrows_by which) sl root) (slot_live env x e loaded v is).0
        ∙ ap (λ (b : Bool). pick b borrowed false)
        (ap₂ ltb (ap (λ (s : VariableState). leading_boxes (chain_of s.links)) (sym state_is_law) ∙ sym be) (ap (λ (s : VariableState). s.moved_from) (sym state_is_law)))

    pub moved_held : v.moved_from ≤ boxes → false ≡ Holds
    moved_held l = sym (held_is ∙ ap (λ (b : Bool). pick b borrowed false) (le-ltb boxes v.moved_from l))

    module _ (l : boxes < v.moved_from) where
      by_end : borrowed ≡ Holds
      by_end = sym (held_is ∙ ap (λ (b : Bool). pick b borrowed false) (lt-ltb boxes v.moved_from l))

      the_end : (d : BorrowEnd) → v.borrow_end ≡ d → borrow_end_of ks (roots_at env x) ≡ d
      unfolding state_at
      the_end d q = ap (λ (s : VariableState). s.borrow_end) (sym state_is_law) ∙ q

      pub none_held : v.borrow_end ≡ end.None → false ≡ Holds
      unfolding borrows_by borrows_any borrows_exclusive rooted some_of
      none_held q = sym (ap (λ (b : Borrow). borrows_by which b root) (told_none ps ks (roots_at env x) (the_end _ q)) ∙ go which) ∙ by_end
        where
          go : (which : Borrows) → borrows_by which no_borrow root ≡ false
          go borrows.Any = refl
          go borrows.Exclusive = refl

      module _ (t : Roots) where
        -- The roots of the places are those that the borrow end has.
        in_places : t ≡ roots_at env x → has t root ≡ rooted ps root
        in_places q = ap (λ (s : Roots). has s root) q ∙ sym (rooted_in_set (roots_at env x) (long_at env) (left ks) root)

        pub shared_held : v.borrow_end ≡ end.Shared t → which ≡ borrows.Any → has t root ≡ Holds
        unfolding borrows_by borrows_any
        shared_held q a =
            let k = told_shared ps ks (roots_at env x) t (the_end _ q) in
            in_places k.0 ∙ sym (ap₂ (λ (c : Borrows) (b : Borrow). borrows_by c b root) a k.1) ∙ by_end

        pub shared_passed : v.borrow_end ≡ end.Shared t → which ≡ borrows.Exclusive → false ≡ Holds
        unfolding borrows_by borrows_exclusive
        shared_passed q a = sym (ap₂ (λ (c : Borrows) (b : Borrow). borrows_by c b root) a (told_shared ps ks (roots_at env x) t (the_end _ q)).1) ∙ by_end

        pub exclusive_held : v.borrow_end ≡ end.Exclusive t → has t root ≡ Holds
        unfolding borrows_by borrows_any borrows_exclusive
        exclusive_held q =
            let k = told_exclusive ps ks (roots_at env x) t (the_end _ q) in
            in_places k.0 ∙ sym (ap (λ (b : Borrow). borrows_by which b root) k.1 ∙ go which) ∙ by_end
          where
            go : (which : Borrows) → borrows_by which (exclusive_of ps) root ≡ rooted ps root
            go borrows.Any = refl
            go borrows.Exclusive = refl

-- ---- the note of a root

-- Who holds is in scope, and its borrow end is such.
held_live : (env : List Row) (which : Borrows) (y root : ℕ) → held_by (borrows_by which) (environment_of env y) root ≡ true → (2 ≤ entry_word env y 0) × (borrows_by which (variable_at env y).borrow root ≡ true)
held_live env which y root h =
    let k = held_out (borrows_by which) (environment_of env y) root h in
    let s = live_status env y k.0 k.1 in
    (s.0, ap (λ (u : Variable). borrows_by which u.borrow root) (sym s.1) ∙ k.2)

-- Who holds a borrow of the root records it.
pub held_recorded : (env : List Row) (which : Borrows) (y root : ℕ) → held_by (borrows_by which) (environment_of env y) root ≡ true → Records env y root
held_recorded env which y root h =
    let k = held_live env which y root h in
    let r : rooted (places (variable_at env y).borrow) root ≡ true = borrows_rooted which (variable_at env y).borrow root k.1 in
    (k.0, end_in_set env (chain_of (links_at env y)) (roots_at env y) root r)

-- Who records it is in its note, and is a variable of the table.
pub recorded_noted : (env : List Row) (n root : ℕ) → TableFor env n → root < n → (y : ℕ) → Records env y root → (y < n) × (has (holders_at env root) y ≡ true)
recorded_noted env n root T l y k =
    let i = live_inside env n T y (variable_at env y) (status_live env y k.0) in
    (i, T.2.held y root i l k.0 k.1)

pub held_noted : (env : List Row) (n root : ℕ) → TableFor env n → root < n → (which : Borrows) (y : ℕ) → held_by (borrows_by which) (environment_of env y) root ≡ true → (y < n) × (has (holders_at env root) y ≡ true)
held_noted env n root T l which y h = recorded_noted env n root T l y (held_recorded env which y root h)

-- It is in the set of those in scope.
pub held_scoped : (env : List Row) (n root : ℕ) → TableFor env n → (which : Borrows) (y : ℕ) → held_by (borrows_by which) (environment_of env y) root ≡ true → has (roots_at env (suc n)) y ≡ true
held_scoped env n root T which y h = T.2.scope y ∙ le-leb 2 (entry_word env y 0) (held_live env which y root h).0

-- An exclusive borrow end is that of an exclusive link.
exclusive_link : (links : List Link) (to : List Place) (x : ℕ) → borrows_exclusive (borrow_end links to) x ≡ true → is_exclusive links ≡ true
unfolding borrow_end borrows_exclusive is_exclusive
exclusive_link [] to x h = h
exclusive_link (boxed ∷ links) to x h = exclusive_link links to x h
exclusive_link (shared ∷ links) to x h = h
exclusive_link (exclusive ∷ links) to x h = refl

-- So all who hold are in what the note of the root and one of the two sets after the variables have in common.
module _ (env : List Row) (n root : ℕ) (T : TableFor env n) (l : root < n) (s t may : Roots) (noted : s ≡ holders_at env root)
    (both : (y : ℕ) → has may y ≡ pick (has s y) (has t y) false) where
  may_hold : (which : Borrows) → ((y : ℕ) → held_by (borrows_by which) (environment_of env y) root ≡ true → has t y ≡ true) → MayHold env which root may
  may_hold which h y k = both y ∙ ap₂ (λ (a b : Bool). pick a b false) (ap (λ (r : Roots). has r y) noted ∙ (held_noted env n root T l which y k).1) (h y k)

  pub any_in : t ≡ roots_at env (suc n) → MayHold env borrows.Any root may
  any_in e = may_hold borrows.Any (λ y k. ap (λ (r : Roots). has r y) e ∙ held_scoped env n root T borrows.Any y k)

  pub exclusive_in_law : t ≡ roots_at env n → MayHold env borrows.Exclusive root may
  unfolding borrows_by
  exclusive_in_law e = may_hold borrows.Exclusive (λ y k.
      let h = held_live env borrows.Exclusive y root k in
      ap (λ (r : Roots). has r y) e ∙ T.2.exclusives y h.0 (exclusive_link (chain_of (links_at env y)) (places_in env (chain_of (links_at env y)) (roots_at env y)) root h.1))
