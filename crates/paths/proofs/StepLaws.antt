-- One variable on the way of following, as the code looks at it: whether it passes, whether following ends there, and what it leads to.
-- Assumes nothing.
use Prim.Native.Nat.{ℕ, ◌-◌, ◌≤◌, ◌<◌}
use native.Mathlib.Omega.{arith}
use mathlib.Core.Path.{◌≡◌, refl, sym}
use mathlib.Core.Logic.{◌⊎◌, inl, inr}
use mathlib.Core.Bool.{Bool, true, false, true≢false}
use mathlib.Core.List.{List, [], ◌∷◌}
use lib.ListN.{length}
use borrow.Author.Tests.{le-leb, lt-leb, lt-ltb, le-ltb}
use Rattle.std.specs.Prelude.{Ok, Err}
use Rattle.syntax.specs.declared.refusals.Reason.TheVariants as reason
use Rattle.paths.specs.declared.follow.Step.TheVariants as step
use Rattle.variables.specs.declared.table.Row.{Row}
use Rattle.statics.specs.Links.{Link, boxed, shared, exclusive, leading_boxes}
use Rattle.statics.specs.Environment.{Variable, live, borrow_of, holding}
use Rattle.statics.specs.Follow.{is_borrow, own_link, own_path, whole_slot}
use Rattle.statics.specs.Roots.{links_of, goes_on, leads}
use Rattle.variables.specs.Chains.{chain_of}
use Rattle.variables.specs.Masks.{has}
use Rattle.variables.specs.Table.{entry_word, links_at, long_at, roots_at, variable_at, environment_of}
use Rattle.paths.specs.Steps.{passes_slot, Passed}
use Rattle.statics.proofs.BorrowLinks.{is_linked}
use Rattle.variables.proofs.EndLaws.{end_rooted}

pub boxes_inside_law : (ks : List Link) → leading_boxes ks ≤ length ks
unfolding leading_boxes
boxes_inside_law [] = omega arith
boxes_inside_law (boxed ∷ ks) = let z = boxes_inside_law ks in omega arith
boxes_inside_law (shared ∷ ks) = omega arith
boxes_inside_law (exclusive ∷ ks) = omega arith

-- ---- what passes

module _ (v : Variable) (f : ℕ) where
  pub stops_deep : (deep : Bool) → deep ≡ true → v.moved_from ≤ leading_boxes v.chain → passes_slot deep (live v) f ≡ false
  unfolding passes_slot whole_slot holding
  stops_deep true e h = le-ltb (leading_boxes v.chain) v.moved_from h
  stops_deep false e h = absurd (true≢false (sym e))

  pub passes_here : (deep : Bool) → (deep ≡ false) ⊎ (leading_boxes v.chain < v.moved_from) → f ≤ leading_boxes v.chain → f ≤ v.moved_from → passes_slot deep (live v) f ≡ true
  unfolding passes_slot whole_slot own_path holding
  passes_here true (inl e) g h = absurd (true≢false e)
  passes_here true (inr l) g h = lt-ltb (leading_boxes v.chain) v.moved_from l
  passes_here false o g h = rw (le-leb f (leading_boxes v.chain) g, le-leb f v.moved_from h) refl

  pub stops_here : (deep : Bool) → f ≤ leading_boxes v.chain → v.moved_from < f → passes_slot deep (live v) f ≡ false
  unfolding passes_slot whole_slot own_path holding
  stops_here true g h = le-ltb (leading_boxes v.chain) v.moved_from (omega arith)
  stops_here false g h = rw (le-leb f (leading_boxes v.chain) g, lt-leb f v.moved_from h) refl

  pub stops_through : (deep : Bool) → leading_boxes v.chain < f → v.moved_from ≤ leading_boxes v.chain → passes_slot deep (live v) f ≡ false
  unfolding passes_slot whole_slot own_path holding
  stops_through true g h = le-ltb (leading_boxes v.chain) v.moved_from h
  stops_through false g h = rw (lt-leb f (leading_boxes v.chain) g, le-ltb (leading_boxes v.chain) v.moved_from h) refl

  pub passes_through : (deep : Bool) → leading_boxes v.chain < f → leading_boxes v.chain < v.moved_from → is_borrow v.borrow ≡ true → passes_slot deep (live v) f ≡ true
  unfolding passes_slot whole_slot own_path holding
  passes_through true g h b = lt-ltb (leading_boxes v.chain) v.moved_from h
  passes_through false g h b = rw (lt-leb f (leading_boxes v.chain) g, lt-ltb (leading_boxes v.chain) v.moved_from h, b) refl

  -- ---- the answers of a step

  module _ (deep : Bool) where
    pub step_moved : passes_slot deep (live v) f ≡ false → Passed deep v f (Err reason.MovedAway)
    step_moved h = record {
      moved = λ e k. (cc, h);
      here = λ e. absurd cc;
      through = λ e. absurd cc;
    }

    pub step_here : passes_slot deep (live v) f ≡ true → f ≤ leading_boxes v.chain → Passed deep v f (Ok step.Here)
    step_here h l = record {
      moved = λ e k. absurd cc;
      here = λ e. (h, l);
      through = λ e. absurd cc;
    }

    pub step_through : passes_slot deep (live v) f ≡ true → leading_boxes v.chain < f → Passed deep v f (Ok step.Through)
    step_through h l = record {
      moved = λ e k. absurd cc;
      here = λ e. absurd cc;
      through = λ e. (h, l);
    }

-- ---- in a table, of a variable in scope, with m links left

module _ (env : List Row) (x m : ℕ) (is : environment_of env x ≡ live (variable_at env x)) where
  pub passes_at : (deep : Bool) → passes_slot deep (environment_of env x) (links_of (environment_of env x) - m) ≡ passes_slot deep (live (variable_at env x)) (long_at env x - m)
  unfolding links_of
  passes_at deep = rw is refl

  pub ends_at : long_at env x - m ≤ leading_boxes (chain_of (links_at env x)) → own_link (environment_of env x) (links_of (environment_of env x) - m) ≡ true
  unfolding links_of own_link
  ends_at h = rw (is, le-leb (long_at env x - m) (leading_boxes (chain_of (links_at env x))) h) refl

  pub passed_at : leading_boxes (chain_of (links_at env x)) < long_at env x - m → own_link (environment_of env x) (links_of (environment_of env x) - m) ≡ false
  unfolding links_of own_link
  passed_at h = rw (is, lt-leb (long_at env x - m) (leading_boxes (chain_of (links_at env x))) h) refl

  -- Where following ends it leads nowhere; behind the borrow link, to the recorded roots.
  pub leads_nowhere : long_at env x - m ≤ leading_boxes (chain_of (links_at env x)) → (z : ℕ) → leads (environment_of env) m x z ≡ false
  unfolding leads goes_on
  leads_nowhere h z = rw (is, le-ltb (leading_boxes (chain_of (links_at env x))) (long_at env x - m) h) refl

  pub leads_to_roots : leading_boxes (chain_of (links_at env x)) < long_at env x - m → (z : ℕ) → leads (environment_of env) m x z ≡ has (roots_at env x) z
  unfolding leads goes_on borrow_of
  leads_to_roots h z = rw (is, lt-ltb (leading_boxes (chain_of (links_at env x))) (long_at env x - m) h) (end_rooted env (chain_of (links_at env x)) (roots_at env x) z (omega arith))

-- A variable that is whole itself and has a borrow link leads on to the end of its value.
pub whole_through : (env : List Row) (x : ℕ) → leading_boxes (chain_of (links_at env x)) < entry_word env x 4 → (long_at env x ≡ leading_boxes (chain_of (links_at env x)) → ⊥) → Passed true (variable_at env x) (long_at env x - 0) (Ok step.Through)
whole_through env x h n =
    let z = boxes_inside_law (chain_of (links_at env x)) in
    let l : leading_boxes (chain_of (links_at env x)) < long_at env x - 0 = omega (arith, z, n) in
    step_through (variable_at env x) (long_at env x - 0) true (passes_through (variable_at env x) (long_at env x - 0) true l h (is_linked (chain_of (links_at env x)) _ (omega (arith, l)))) l
