-- The search for where a place leads: what its loop keeps, what a round does, and what it has found at its ends. Then whole values.
-- Assumes nothing.
use Prim.Native.Nat.{ℕ, ◌-◌, ◌≤◌, ◌<◌}
use native.Mathlib.Omega.{arith}
use mathlib.Core.Path.{◌≡◌, refl, sym, ap, ◌∙◌, subst}
use mathlib.Core.Bool.{Bool, true, false, false≢true, true≢false}
use mathlib.Core.List.{List}
use lib.ListN.{length, length-drop}
use lib.Dec.{eqb}
use borrow.Author.Tests.{eqb-true, eq-eqb}
use Rattle.syntax.specs.Result.{pick}
use Rattle.syntax.specs.Script.{Place}
use Rattle.variables.specs.declared.table.Row.{Row}
use Rattle.variables.specs.declared.roots.Roots.{Roots}
use Rattle.std.specs.Prelude.{Result, Ok, Err}
use Rattle.syntax.specs.declared.refusals.Reason.{Reason}
use Rattle.syntax.specs.declared.refusals.Reason.TheVariants as reason
use Rattle.paths.specs.declared.follow.Ends.{Ends}
use Rattle.paths.specs.declared.follow.Ends.TheVariants as ends
use Rattle.paths.specs.declared.follow.Step.{Step}
use Rattle.paths.specs.declared.follow.Step.TheVariants as step
use Rattle.statics.specs.Links.{Link, leading_boxes}
use Rattle.statics.specs.Places.{every, rooted}
use Rattle.statics.specs.Environment.{Variable, live}
use Rattle.statics.specs.Follow.{own_link}
use Rattle.statics.specs.Neat.{place}
use Rattle.statics.specs.Roots.{links_of, lengths, places_of, leads, MetFrom}
use Rattle.variables.specs.Chains.{chain_of}
use Rattle.variables.specs.Masks.{has}
use Rattle.variables.specs.Table.{long_at, links_at, roots_at, variable_at, environment_of}
use Rattle.variables.specs.Verdicts.{NeatTable}
use Rattle.paths.specs.Steps.{passes_slot, passes, Passed, Searched}
use Rattle.statics.proofs.SetLaws.{rooted_out}
use Rattle.statics.proofs.FollowBound.{all_met}
use Rattle.statics.proofs.FollowRoots.{roots_met, every_root}
use Rattle.statics.proofs.ClosureLoop.{met_after, todo_after, over, count, waiting}
use Rattle.statics.proofs.SetSearch.{Search, so_far, no_more, search_begins, search_round, search_less, here_met, here_todo, search_next}
use Rattle.variables.proofs.EntryLaws.{live_status}
use Rattle.paths.proofs.StepLaws.{passes_at, ends_at, passed_at, leads_nowhere, leads_to_roots}

-- ---- in a table

-- The variable passes with m links left, and following ends in it.
abbrev passing : List Row → ℕ → Bool → ℕ → Bool
passing env m deep y = passes_slot deep (environment_of env y) (links_of (environment_of env y) - m)

abbrev ending : List Row → ℕ → ℕ → Bool
ending env m y = own_link (environment_of env y) (links_of (environment_of env y) - m)

abbrev pub Searching : List Row → ℕ → ℕ → Bool → Roots → Roots → Roots → Type 0
Searching env root m deep met todo es = Search (eqb root) (leads (environment_of env) m) (passing env m deep) (ending env m) (has met) (has todo) (has es)

module _ (env : List Row) (n : ℕ) (T : NeatTable env n) (root m : ℕ) (is : environment_of env root ≡ live (variable_at env root)) (long : m ≤ long_at env root) where
  abbrev start : Place
  start = place root (long_at env root - m)

  fits : long_at env root - m ≤ long_at env root
  fits = omega arith

  -- All that following meets is in scope, and long enough.
  abbrev InReach : ℕ → Type 0
  InReach y = (environment_of env y ≡ live (variable_at env y)) × (m ≤ long_at env y) × (y < n)

  all_reached : (f : ℕ → Bool) × (MetFrom (environment_of env) m root f) × ((y : ℕ) → f y ≡ true → InReach y)
  all_reached =
      let A = all_met T.1.1 start (variable_at env root) is fits in
      let e : long_at env root - (long_at env root - m) ≡ m = omega arith in (
        rooted A.0,
        subst (λ (k : ℕ). MetFrom (environment_of env) k root (rooted A.0)) e (roots_met T.1.1 start (variable_at env root) is fits A.0 A.1),
        λ y h.
            let q = rooted_out A.0 y h in
            let L = A.2.good q.0 q.1 in
            let l : environment_of env y ≡ live L.variable = ap (environment_of env) (sym q.2) ∙ L.is in
            let s : L.variable ≡ variable_at env y = (live_status env y L.variable l).1 in
            let a = length-drop q.0.follows L.variable.chain in
            let b = length-drop (long_at env root - m) (chain_of (links_at env root)) in
            let d = ap (λ (ks : List Link). length ks) L.rest in
            let g : length L.variable.chain ≡ long_at env y = ap (λ (v : Variable). length v.chain) s in
            (l ∙ ap live s, omega (arith, a, b, d, g, e), T.1.1.low y L.variable l),
      )

  root_met : all_reached.0 root ≡ true
  root_met = all_reached.1.start root (eq-eqb root root refl)

  -- One that is met does not pass.
  stops_at : (deep : Bool) (x : ℕ) → all_reached.0 x ≡ true → passes_slot deep (live (variable_at env x)) (long_at env x - m) ≡ false → Searched n (environment_of env) root m deep (Err reason.MovedAway)
  stops_at deep x met_x h = record {
    met = all_reached.0;
    is = all_reached.1;
    moved = λ e k. (cc, not_all (every (passes deep (environment_of env)) (places_of n all_reached.0 (lengths (environment_of env)) m)) refl);
    own = λ k. absurd cc;
    passed = λ s k. absurd cc;
    to = λ s k. absurd cc;
  }
    where
      stops : passing env m deep x ≡ false
      stops = passes_at env x m (all_reached.2 x met_x).0 deep ∙ h

      not_all : (b : Bool) → every (passes deep (environment_of env)) (places_of n all_reached.0 (lengths (environment_of env)) m) ≡ b → b ≡ false
      not_all true k = absurd (true≢false (sym ((every_root n all_reached.0 (environment_of env) m (passes deep (environment_of env))).0 k x (all_reached.2 x met_x).2 met_x) ∙ stops))
      not_all false k = refl

  -- The root is always met.
  pub root_stops : (deep : Bool) → passes_slot deep (live (variable_at env root)) (long_at env root - m) ≡ false → Searched n (environment_of env) root m deep (Err reason.MovedAway)
  root_stops deep h = stops_at deep root root_met h

  -- Where following ends in the root, nothing else is met.
  pub root_alone : long_at env root - m ≤ leading_boxes (chain_of (links_at env root)) → MetFrom (environment_of env) m root (eqb root)
  root_alone h = record {
    start = λ y k. k;
    closed = λ y z k l. absurd (false≢true (sym (leads_nowhere env root m is h z) ∙ ap (λ (w : ℕ). leads (environment_of env) m w z) (eqb-true root y k) ∙ l));
    least = λ s a b y k. a y k;
  }

  root_ends : (deep : Bool) → passes_slot deep (live (variable_at env root)) (long_at env root - m) ≡ true → long_at env root - m ≤ leading_boxes (chain_of (links_at env root))
      → Searched n (environment_of env) root m deep (Ok ends.Own)
  root_ends deep p h = record {
    met = eqb root;
    is = root_alone h;
    moved = λ e k. absurd cc;
    own = λ e. (
      (every_root n (eqb root) (environment_of env) m (passes deep (environment_of env))).1 (λ x l k. ap (passing env m deep) (sym (eqb-true root x k)) ∙ passes_at env root m is deep ∙ p),
      ends_at env root m is h,
    );
    passed = λ s e. absurd cc;
    to = λ s e. absurd cc;
  }

  module _ (deep : Bool) (met todo es : Roots) (S : Searching env root m deep met todo es) where
    -- Nothing is left to do.
    pub search_over : ((y : ℕ) → has todo y ≡ false) → Searched n (environment_of env) root m deep (Ok (ends.At es))
    search_over none = record {
      met = has met;
      is = over (eqb root) (leads (environment_of env) m) (has met) (has todo) S.meeting none;
      moved = λ e k. absurd cc;
      own = λ e. absurd cc;
      passed = λ s e. (every_root n (has met) (environment_of env) m (passes deep (environment_of env))).1 (λ x l k. S.passed x k (none x));
      to = λ s e y.
          let z : es ≡ s = cc in
          ap (λ (k : Roots). has k y) (sym z) ∙ S.ended y ∙ ap (λ (b : Bool). pick (has met y) (pick b false (ending env m y)) false) (none y);
    }

    module _ (x : ℕ) (h : has todo x ≡ true) where
      met_x : all_reached.0 x ≡ true
      met_x = S.meeting.least all_reached.0 all_reached.1.start all_reached.1.closed x (S.meeting.inside x h)

      pub in_reach : InReach x
      in_reach = all_reached.2 x met_x

      -- The follows from x are its links, as counted, without those left.
      module _ (links many : ℕ) (le : links ≡ links_at env x) (ce : many ≡ length (chain_of links)) (r : Result Step Reason) (step_is : Passed deep (variable_at env x) (many - m) r) where
        P : Passed deep (variable_at env x) (long_at env x - m) r
        P = subst (λ (k : ℕ). Passed deep (variable_at env x) (k - m) r) (ce ∙ ap (λ (l : ℕ). length (chain_of l)) le) step_is

        pub search_stops : (k : Reason) → r ≡ Err k → (o : Result Ends Reason) → o ≡ Err k → Searched n (environment_of env) root m deep o
        search_stops k e o q = subst (λ (o' : Result Ends Reason). Searched n (environment_of env) root m deep o') (sym (q ∙ ap Err (P.moved k e).0)) (stops_at deep x met_x (P.moved k e).1)

        module _ (todo₁ : Roots) (te : (y : ℕ) → has todo₁ y ≡ pick (eqb x y) false (has todo y)) where
          abbrev leading : ℕ → ℕ → Bool
          leading = leads (environment_of env) m

          module _ (e : r ≡ (Ok step.Here)) where
            none : (z : ℕ) → leading x z ≡ false
            none = leads_nowhere env x m in_reach.0 (P.here e).1

            same_met : (z : ℕ) → has met z ≡ met_after leading x (has met) z
            same_met = here_met (eqb root) leading (passing env m deep) (ending env m) (has met) (has todo) (has es) S x h (has todo₁) te none

            less_todo : (z : ℕ) → has todo₁ z ≡ todo_after leading x (has met) (has todo) z
            less_todo = here_todo (eqb root) leading (passing env m deep) (ending env m) (has met) (has todo) (has es) S x h (has todo₁) te none

            pub here_again : (one es' : Roots) → ((y : ℕ) → has one y ≡ eqb x y) → ((y : ℕ) → has es' y ≡ pick (has es y) true (has one y)) → Searching env root m deep met todo₁ es'
            here_again one es' oe ee =
                search_round (eqb root) leading (passing env m deep) (ending env m) (has met) (has todo) (has es) S x h (has met) (has todo₁) same_met less_todo (has es')
                (passes_at env x m in_reach.0 deep ∙ (P.here e).0)
                (λ y. ee y ∙ ap (λ (b : Bool). pick (has es y) true b) (oe y ∙ so_far (eqb x y) (ending env m x) (ends_at env x m in_reach.0 (P.here e).1)))

            pub here_less : count (waiting (has met) (has todo₁)) n < count (waiting (has met) (has todo)) n
            here_less =
                let z = search_less (eqb root) leading (passing env m deep) (ending env m) (has met) (has todo) (has es) S x h (has met) (has todo₁) same_met less_todo n in_reach.2 in
                omega (arith, z)

          module _ (e : r ≡ (Ok step.Through)) (roots more met' todo' : Roots) (re : roots ≡ roots_at env x) (me : (z : ℕ) → has more z ≡ pick (has met z) false (has roots z)) (met-is : (z : ℕ) → has met' z ≡ pick (has met z) true (has more z)) (todo-is : (z : ℕ) → has todo' z ≡ pick (has todo₁ z) true (has more z)) where
            some : (z : ℕ) → leading x z ≡ has roots z
            some z = leads_to_roots env x m in_reach.0 (P.through e).1 z ∙ ap (λ (k : Roots). has k z) (sym re)

            pub through_round : Searching env root m deep met' todo' es × (count (waiting (has met') (has todo')) n < count (waiting (has met) (has todo)) n)
            through_round =
                search_next (eqb root) leading (passing env m deep) (ending env m) (has met) (has todo) (has es) S x h (has todo₁) te (has roots) some (has more) me (has met') (has todo') (has es) met-is todo-is
                (passes_at env x m in_reach.0 deep ∙ (P.through e).0)
                (λ y. no_more (has es y) (eqb x y) (ending env m x) (passed_at env x m in_reach.0 (P.through e).1))
                n
                in_reach.2

  -- The root has been looked at, and leads beyond its borrow link: what it records is to do, `none` is left of the first set.
  pub search_goes_on : (deep : Bool) → Passed deep (variable_at env root) (long_at env root - m) (Ok step.Through) → (one roots more met none : Roots) → ((y : ℕ) → has one y ≡ eqb root y)
      → roots ≡ roots_at env root → ((z : ℕ) → has more z ≡ pick (has one z) false (has roots z)) → ((z : ℕ) → has met z ≡ pick (has one z) true (has more z)) → ((y : ℕ) → has none y ≡ false)
      → Searching env root m deep met more none
  search_goes_on deep P one roots more met none oe re me met-is ne =
      (through_round deep one one none (search_begins (eqb root) (leads (environment_of env) m) (passing env m deep) (ending env m) (has one) (has none) oe ne) root (oe root ∙ eq-eqb root root refl)
      (links_at env root) (long_at env root) refl refl (Ok step.Through) P none (λ y. ne y ∙ gone (eqb root y) (has one y) (oe y)) refl roots more met more re me met-is (λ z. ap (λ (b : Bool). pick b true (has more z)) (sym (ne z)))).0
    where
      gone : (q b : Bool) → b ≡ q → false ≡ pick q false b
      gone true b e = refl
      gone false b e = sym e

-- ---- from the root of a place, with its follows: left are the links of the root without them

module _ (env : List Row) (n : ℕ) (T : NeatTable env n) (root f : ℕ) (is : environment_of env root ≡ live (variable_at env root)) (fits : f ≤ long_at env root) (r : Result Step Reason) (P : Passed false (variable_at env root) f r) where
  at_root : (k : ℕ) → k ≡ long_at env root → Passed false (variable_at env root) (long_at env root - (k - f)) r
  at_root k e = subst (λ (g : ℕ). Passed false (variable_at env root) g r) (omega arith) P

  pub place_stops : (k : Reason) → r ≡ Err k → (o : Result Ends Reason) → o ≡ Err k → Searched n (environment_of env) root (long_at env root - f) false o
  place_stops k e o q =
      let stops = (at_root (long_at env root) refl).moved k e in
      subst (λ (o' : Result Ends Reason). Searched n (environment_of env) root (long_at env root - f) false o') (sym (q ∙ ap Err stops.0)) (root_stops env n T root (long_at env root - f) is (omega arith) false stops.1)

  pub place_ends : r ≡ (Ok step.Here) → Searched n (environment_of env) root (long_at env root - f) false (Ok ends.Own)
  place_ends e = let here = (at_root (long_at env root) refl).here e in root_ends env n T root (long_at env root - f) is (omega arith) false here.0 here.1

  -- Beyond the borrow link, with the links of the root as counted.
  module _ (links many : ℕ) (le : links ≡ links_at env root) (ce : many ≡ length (chain_of links)) where
    counted : many ≡ long_at env root
    counted = ce ∙ ap (λ (l : ℕ). length (chain_of l)) le

    pub beyond_asks : r ≡ (Ok step.Through) → (many - f ≤ long_at env root) × Passed false (variable_at env root) (long_at env root - (many - f)) (Ok step.Through)
    beyond_asks e = (omega (arith, counted), subst (λ (k : Result Step Reason). Passed false (variable_at env root) (long_at env root - (many - f)) k) e (at_root many counted))

    pub beyond_found : (found : Result Ends Reason) → Searched n (environment_of env) root (many - f) false found → Searched n (environment_of env) root (long_at env root - f) false found
    beyond_found found S = subst (λ (k : ℕ). Searched n (environment_of env) root (k - f) false found) counted S
