-- Whether the value of a variable is whole (LANGUAGE 3.15), by its own state where that tells, and else by a search. Assumes nothing.
use Prim.Native.Nat.{ℕ, ◌-◌, ◌≤◌, ◌<◌}
use native.Mathlib.Omega.{arith}
use mathlib.Core.Path.{◌≡◌, refl, sym, ap, ◌∙◌, subst}
use mathlib.Core.Bool.{Bool, true, false}
use mathlib.Core.List.{List}
use lib.Dec.{eqb}
use borrow.Author.Tests.{lt-ltb, eqb-true}
use Rattle.variables.specs.declared.table.Row.{Row}
use Rattle.variables.specs.declared.table.BorrowEnd.TheVariants as end
use Rattle.variables.specs.declared.table.VariableState.{VariableState}
use Rattle.variables.specs.declared.table.Entry.{Entry}
use Rattle.variables.specs.declared.table.Entry.TheVariants as entry
use Rattle.std.specs.Prelude.{Result, Ok, Err, is_ok}
use Rattle.syntax.specs.declared.refusals.Reason.{Reason}
use Rattle.syntax.specs.declared.refusals.Reason.TheVariants as reason
use Rattle.paths.specs.declared.follow.Ends.{Ends}
use Rattle.paths.specs.declared.follow.Ends.TheVariants as ends
use Rattle.paths.specs.declared.follow.Step.TheVariants as step
use Rattle.statics.specs.Links.{leading_boxes}
use Rattle.statics.specs.Places.{every}
use Rattle.statics.specs.Environment.{live, holding}
use Rattle.statics.specs.Follow.{whole_slot, value_whole}
use Rattle.statics.specs.Neat.{place}
use Rattle.statics.specs.Roots.{lengths, places_of, MetFrom}
use Rattle.variables.specs.Chains.{chain_of}
use Rattle.variables.specs.Table.{entry_word, long_at, links_at, roots_at, variable_at, environment_of, borrow_end_of, state_at, entry_at}
use Rattle.variables.specs.Verdicts.{NeatTable}
use Rattle.paths.specs.Steps.{passes_slot, passes, Passed, Searched}
use Rattle.statics.proofs.FollowRoots.{whole_by_roots, every_root}
use Rattle.variables.proofs.EntryLaws.{slot_live}
use Rattle.variables.proofs.EndLaws.{none_boxed, boxed_none}
use Rattle.paths.proofs.StepLaws.{stops_deep, whole_through}
use Rattle.paths.proofs.SearchLaws.{root_stops, root_alone}

module _ (env : List Row) (n : ℕ) (T : NeatTable env n) (x : ℕ) (is : environment_of env x ≡ live (variable_at env x)) where
  abbrev whole : Bool
  whole = value_whole n (environment_of env) x (variable_at env x)

  -- Whole is every variable met on the way to the end of the links.
  whole_met : (f : ℕ → Bool) → MetFrom (environment_of env) 0 x f
      → whole ≡ every (passes true (environment_of env)) (places_of n f (lengths (environment_of env)) 0)
  unfolding passes_slot
  whole_met f F =
      let z : long_at env x - long_at env x ≡ 0 = omega arith in
      let l : long_at env x ≤ long_at env x = omega arith in
      let W = whole_by_roots T.1.1 (place x (long_at env x)) (variable_at env x) is l f (subst (λ (k : ℕ). MetFrom (environment_of env) k x f) (sym z) F) refl in
      W ∙ ap (λ (k : ℕ). every (λ q. whole_slot (environment_of env q.root)) (places_of n f (lengths (environment_of env)) k)) z

  -- So it is what the search says that asks each variable for all of it.
  pub whole_found : (r : Result Ends Reason) → Searched n (environment_of env) x 0 true r → is_ok r ≡ whole
  whole_found (Ok ends.Own) S = sym (whole_met S.met S.is ∙ (S.own refl).0)
  whole_found (Ok (ends.At s)) S = sym (whole_met S.met S.is ∙ S.passed s refl)
  whole_found (Err e) S = sym (whole_met S.met S.is ∙ (S.moved e refl).1)

  -- Without a search: something of the variable itself is moved away, or nothing is and it has no borrow link.
  moved_there : entry_word env x 4 ≤ leading_boxes (chain_of (links_at env x)) → false ≡ whole
  moved_there h = whole_found (Err reason.MovedAway) (root_stops env n T x 0 is (omega arith) true (stops_deep (variable_at env x) (long_at env x - 0) true refl h))

  whole_there_law : leading_boxes (chain_of (links_at env x)) < entry_word env x 4 → long_at env x ≡ leading_boxes (chain_of (links_at env x)) → true ≡ whole
  unfolding passes_slot whole_slot holding
  whole_there_law h e =
      let k : whole_slot (environment_of env x) ≡ true = ap whole_slot is ∙ lt-ltb (leading_boxes (chain_of (links_at env x))) (entry_word env x 4) h in
      sym (whole_met (eqb x) (root_alone env n T x 0 is (omega arith) (omega (arith, e)))
      ∙ (every_root n (eqb x) (environment_of env) 0 (passes true (environment_of env))).1 (λ y l i. ap (λ (w : ℕ). whole_slot (environment_of env w)) (sym (eqb-true x y i)) ∙ k))

  -- The same of the state as it was loaded, with its boxes counted.
  module _ (e : Entry) (loaded : e ≡ entry_at env x) (v : VariableState) (found : e ≡ entry.Live v) (boxes : ℕ) (counted : boxes ≡ leading_boxes (chain_of v.links)) where
    state_is_law : v ≡ state_at env x
    state_is_law = (slot_live env x e loaded v found).1

    boxes_are : boxes ≡ leading_boxes (chain_of (links_at env x))
    unfolding state_at
    boxes_are = counted ∙ ap (λ (w : VariableState). leading_boxes (chain_of w.links)) state_is_law

    moved_is : v.moved_from ≡ entry_word env x 4
    unfolding state_at
    moved_is = ap (λ (w : VariableState). w.moved_from) state_is_law

    end_is : v.borrow_end ≡ borrow_end_of (chain_of (links_at env x)) (roots_at env x)
    unfolding state_at
    end_is = ap (λ (w : VariableState). w.borrow_end) state_is_law

    pub moved_loaded : v.moved_from ≤ boxes → false ≡ whole
    moved_loaded h = moved_there (omega (arith, boxes_are, moved_is))

    pub whole_loaded : boxes < v.moved_from → v.borrow_end ≡ end.None → true ≡ whole
    whole_loaded h none = whole_there_law (omega (arith, boxes_are, moved_is)) (none_boxed (chain_of (links_at env x)) (roots_at env x) (sym end_is ∙ none))

    -- With a borrow link the search goes on from there.
    pub linked_loaded : boxes < v.moved_from → (v.borrow_end ≡ end.None → ⊥)
        → Passed true (variable_at env x) (long_at env x - 0) (Ok step.Through)
    linked_loaded h some =
        whole_through env x (omega (arith, boxes_are, moved_is))
        (λ z. some (end_is ∙ boxed_none (chain_of (links_at env x)) (roots_at env x) z))
