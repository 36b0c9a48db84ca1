-- A place that leads to an own link of its root: only boxes are passed, so that following gives the place itself. What is borrowed there, and
-- the answer of an assign to it but for 35.
use Prim.Native.Nat.{ℕ, zero, suc, ◌-◌, ◌≤◌}
use native.Mathlib.Omega.{arith}
use mathlib.Core.Path.{◌≡◌, refl, sym, ap, ap₂, fun_ext, ◌∙◌, subst}
use mathlib.Core.Logic.{inl, inr}
use mathlib.Core.Bool.{Bool, true, false}
use mathlib.Core.Option.{none}
use mathlib.Core.List.{List, [], ◌∷◌}
use lib.ListN.{length, take}
use lib.Dec.{leb}
use borrow.Author.Tests.{le-leb, eq-eqb, ne_eqb}
use Rattle.syntax.specs.Result.{ok, err, need, ◌>>=◌}
use Rattle.syntax.specs.Script.{Place}
use Rattle.variables.specs.declared.table.Row.{Row}
use Rattle.variables.specs.declared.roots.Roots.{Roots}
use Rattle.paths.specs.declared.follow.Ends.{Ends}
use Rattle.paths.specs.declared.follow.Ends.TheVariants as ends
use Rattle.std.specs.Prelude.{Result, Ok, Some}
use Rattle.syntax.specs.declared.refusals.Reason.{Reason}
use Rattle.variables.specs.declared.verdicts.ValueType.{ValueType}
use Rattle.statics.specs.Links.{Link, boxed, shared, exclusive, leading_boxes, no_shared}
use Rattle.statics.specs.Places.{member, unite, every, only}
use Rattle.statics.specs.Environment.{Borrow, places, Variable, Slot, live, Environment, update, refilled, write, level_of, borrow_of, borrows_at, lives_at}
use Rattle.statics.specs.Follow.{onward, meet_all, follow, own_link, own_path}
use Rattle.statics.specs.Rules.{in_scope, reached, valued, judge_place, judge_write}
use Rattle.statics.specs.Neat.{Ordered}
use Rattle.statics.specs.Roots.{links_of, lengths, places_of, left}
use Rattle.variables.specs.Chains.{chain_of}
use Rattle.variables.specs.Masks.{has}
use Rattle.paths.specs.Steps.{passes_slot, passes, Searched}
use Rattle.variables.specs.Table.{links_at, long_at, roots_at, variable_at, places_in, end_in, environment_of}
use Rattle.variables.specs.Verdicts.{NeatTable, as_value}
use Rattle.rules.specs.RuleAnswers.{Named, OwnFound}
use Rattle.variables.proofs.EqualChains.{same_links_law}
use Rattle.statics.proofs.SetLaws.{unite_out, unite_left}
use Rattle.statics.proofs.SetOrder.{unite_ordered, end_ordered}
use Rattle.statics.proofs.SetEquality.{same_list}
use Rattle.statics.proofs.RootSets.{from_ordered}
use Rattle.statics.proofs.FollowRoots.{every_root}
use Rattle.statics.proofs.FollowRoots as paths
use Rattle.statics.proofs.NeatPaths.{own_link_law}
use Rattle.rules.proofs.ValueLaws.{end_drop, end_recorded}
use Rattle.paths.proofs.StepLaws.{passes_at}
use Rattle.rules.proofs.PlaceLaws.{variable_is, named_live, named_inside, on_chain}
use Rattle.rules.proofs.WriteLaws.{write_one}

-- Nothing is followed, so the place is judged by its own path alone.
own_place : (nv : ℕ) (Γ : Environment) (i : ℕ) (p : Place) (v : Variable) → Γ p.root ≡ live v → p.follows ≤ length v.chain → p.follows ≤ leading_boxes v.chain
    → own_path (live v) p.follows ≡ true → judge_place nv Γ i p ≡ ok (paths.located v (p ∷ []))
unfolding judge_place in_scope need reached follow meet_all onward member every only own_link ◌>>=◌
own_place nv Γ i p v e l o h = let b = le-leb p.follows (leading_boxes v.chain) o in rw (e, le-leb p.follows (length v.chain) l, b, e, h, b) refl

-- The boxes before an own link are not shared.
boxes_unshared : (d : ℕ) (ks : List Link) → d ≤ leading_boxes ks → no_shared (take d ks) ≡ true
unfolding leading_boxes no_shared
boxes_unshared zero ks h = refl
boxes_unshared (suc d) [] h = refl
boxes_unshared (suc d) (boxed ∷ ks) h = boxes_unshared d ks (omega arith)
boxes_unshared (suc d) (shared ∷ ks) h = absurd (omega arith)
boxes_unshared (suc d) (exclusive ∷ ks) h = absurd (omega arith)

-- A set united with none.
unite_none : (ps : List Place) → Ordered ps → unite ps [] ≡ ps
unite_none ps o = same_list (unite ps []) ps (unite_ordered ps [] tt) o (λ q i. elim (unite_out q ps [] i) [ inl j ↦ j | inr j ↦ absurd j ]) (λ q i. unite_left q ps [] i)

module _ (env : List Row) (nv : ℕ) (T : NeatTable env nv) (i : ℕ) (p : Place) {rest : ℕ} where
  -- ---- the search that ends in the root

  module _ (F : Named (environment_of env) p rest) (x : ℕ) (at : x ≡ p.root) (f : ℕ) (follows : f ≡ p.follows) (r : Result Ends Reason)
      (S : Searched nv (environment_of env) x (long_at env x - f) false r) (e : r ≡ Ok ends.Own) where
    abbrev m : ℕ
    m = long_at env x - f

    is : environment_of env x ≡ live (variable_at env x)
    is = named_live env p F x at

    chain_is : F.variable ≡ variable_at env x
    chain_is = variable_is env p F ∙ ap (variable_at env) (sym at)

    fits : long_at env x - m ≡ p.follows
    fits =
        let a = F.long in
        let b : length F.variable.chain ≡ long_at env x = ap (λ (v : Variable). length v.chain) chain_is in
        omega (arith, follows)

    own_there : p.follows ≤ leading_boxes F.variable.chain
    unfolding links_of
    own_there =
        let z = own_link_law (environment_of env x) (variable_at env x) (lengths (environment_of env) x - m) is (S.own e).1 in
        let b : lengths (environment_of env) x ≡ long_at env x = ap links_of is in
        let d : leading_boxes F.variable.chain ≡ leading_boxes (chain_of (links_at env x)) = ap (λ (v : Variable). leading_boxes v.chain) chain_is in
        omega (arith, fits)

    path_there : own_path (live F.variable) p.follows ≡ true
    unfolding passes_slot
    path_there =
        ap₂ (λ (v : Variable) (k : ℕ). own_path (live v) k) chain_is (sym fits)
        ∙ sym (passes_at env x m is false)
        ∙ (every_root nv S.met (environment_of env) m (passes false (environment_of env))).0 (S.own e).0 x (named_inside env p F x at nv T) (S.is.start x (eq-eqb x x refl))

    pub found_own : OwnFound nv (environment_of env) i p rest
    found_own = record { named = F; own = own_there; is = own_place nv (environment_of env) i p F.variable F.is F.long own_there path_there }

  module _ (F : OwnFound nv (environment_of env) i p rest) where
    own_links : p.follows ≤ leading_boxes (chain_of (links_at env p.root))
    own_links = subst (λ (v : Variable). p.follows ≤ leading_boxes v.chain) (variable_is env p F.named) F.own

    -- The links after the place are the root's without some boxes, so the borrow end is the root's.
    own_end : (s : Roots) → end_in env (chain_of (links_at env p.root)) s ≡ end_in env (chain_of rest) s
    own_end s = sym (end_drop env p.follows (chain_of (links_at env p.root)) s own_links) ∙ ap (λ (ks : List Link). end_in env ks s) (on_chain env p F.named)

    -- What is borrowed there is what the root borrows.

    pub own_borrows : borrows_at (environment_of env) (p ∷ []) ≡ places (end_in env (chain_of rest) (roots_at env p.root))
    unfolding borrows_at borrow_of places_of
    own_borrows =
        let ks = chain_of (links_at env p.root) in
        ap (λ (sl : Slot). unite (places (borrow_of sl)) []) (named_live env p F.named p.root refl)
        ∙ unite_none (places (end_in env ks (roots_at env p.root))) (end_ordered ks (places_in env ks (roots_at env p.root)) (from_ordered (has (roots_at env p.root)) (long_at env) (left ks) 0 128))
        ∙ ap places (own_end (roots_at env p.root))

    -- ---- assign (LANGUAGE 3.25): the tests but for 35, one after the other

    passed : no_shared (take p.follows F.named.variable.chain) ≡ true
    passed = boxes_unshared p.follows F.named.variable.chain F.own

    module _ (t : ValueType) where
      pub own_other_links : (rest ≡ t.links → ⊥) → judge_write nv (environment_of env) i p (as_value env (Some t)) ≡ err (39, i)
      unfolding judge_write valued need ◌>>=◌
      own_other_links h = rw (F.is, passed, F.named.after, same_links_law rest t.links, ne_eqb rest t.links h) refl

      module _ (same : rest ≡ t.links) (s : Roots) (recorded : places (end_in env (chain_of rest) t.roots) ≡ places_in env (chain_of rest) s) (x : ℕ) (at : x ≡ p.root) (level : ℕ)
          (level_is : level ≡ level_of (environment_of env x)) (long : Bool) (asked : (m : ℕ) → long ≡ every (λ q. leb (level_of (environment_of env q.root)) level) (places_of 128 (has s) (long_at env) m)) where
        abbrev b : Borrow
        b = end_in env (chain_of t.links) t.roots

        is_b : end_in env (chain_of rest) t.roots ≡ b
        is_b = ap (λ (k : ℕ). end_in env (chain_of k) t.roots) same

        lives : lives_at (environment_of env) b (level_of (environment_of env p.root)) ≡ long
        unfolding lives_at
        lives =
            ap₂ (λ (ps : List Place) (l : ℕ). every (λ q. leb (level_of (environment_of env q.root)) l) ps) (ap places (sym is_b) ∙ recorded) (ap (λ (y : ℕ). level_of (environment_of env y)) (sym at) ∙ sym level_is)
            ∙ sym (asked (left (chain_of rest)))

        pub own_too_short : long ≡ false → judge_write nv (environment_of env) i p (as_value env (Some t)) ≡ err (40, i)
        unfolding judge_write valued need every ◌>>=◌
        own_too_short h = rw (F.is, passed, F.named.after, same_links_law rest t.links, eq-eqb rest t.links same, lives, h) refl

        module _ (enough : long ≡ true) (env' : List Row) (E : environment_of env' ≡ update (environment_of env) x (refilled (environment_of env x) (end_in env (chain_of (links_at env x)) s))) where
          -- The root has the value's borrow end.
          written_is : environment_of env' ≡ write (environment_of env) (p ∷ []) b
          written_is =
              E ∙ ap (λ (y : ℕ). update (environment_of env) y (refilled (environment_of env y) (end_in env (chain_of (links_at env y)) s))) at
              ∙ ap (λ (c : Borrow). update (environment_of env) p.root (refilled (environment_of env p.root) c)) (own_end s ∙ end_recorded env (chain_of rest) t.roots s recorded ∙ is_b)
              ∙ fun_ext (λ y. sym (write_one (environment_of env) p.root p.follows b y))

          pub own_written : judge_write nv (environment_of env) i p (as_value env (Some t)) ≡ ok (environment_of env', none)
          unfolding judge_write valued need every ◌>>=◌
          own_written = rw (F.is, passed, F.named.after, same_links_law rest t.links, eq-eqb rest t.links same, lives, enough, ← written_is) refl
