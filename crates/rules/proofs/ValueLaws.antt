-- A value by the table in which its roots are: with a box in front, some boxes fewer, and when only links stay.
use Prim.Native.Nat.{ℕ, suc, ◌≤◌, ◌<◌}
use native.Mathlib.Omega.{arith}
use mathlib.Core.Path.{◌≡◌, refl, sym, ap, ap₂, ◌∙◌, subst}
use mathlib.Core.Bool.{Bool, true, false, false≢true}
use mathlib.Core.Option.{none, some}
use mathlib.Core.List.{List, [], ◌∷◌}
use lib.ListN.{length, drop, length-drop}
use lib.Dec.{leb}
use Rattle.syntax.specs.Result.{ok, need, ◌>>=◌}
use Rattle.syntax.specs.Script.{Place}
use Rattle.variables.specs.declared.table.Row.{Row}
use Rattle.variables.specs.declared.roots.Roots.{Roots}
use Rattle.variables.specs.declared.table.BorrowEnd.{BorrowEnd}
use Rattle.variables.specs.declared.table.VariableState.{VariableState}
use Rattle.variables.specs.declared.verdicts.ValueType.{ValueType}
use Rattle.std.specs.Prelude.{Option, None, Some, Ok}
use Rattle.statics.specs.Links.{Link, boxed, shared, exclusive, leading_boxes, is_number, copies}
use Rattle.statics.specs.Places.{every, some_of, rooted}
use Rattle.statics.specs.Environment.{Borrow, places, borrow_end, Variable, Slot, free, used, live, Environment, Ty, update, fresh, moved_away, moved_away_at, level_of, borrow_of, borrows_at, lives_at, leave}
use Rattle.statics.specs.Follow.{own_link}
use Rattle.statics.specs.Rules.{Judged, Out, number_ty, valued, judge_let, borrow_in, judge_block_end}
use Rattle.statics.specs.Neat.{Among, SameSet, behind, Holds, Neat, NeatValue}
use Rattle.statics.specs.Roots.{lengths, place_at, places_from, places_of, left}
use Rattle.variables.specs.Masks.{has}
use Rattle.variables.specs.Chains.{chain_of}
use Rattle.paths.specs.Steps.{BorrowedAt}
use Rattle.variables.specs.Table.{links_at, long_at, roots_at, places_in, end_in, variable_at, environment_of, borrow_end_of, as_variable, Fits, Unrecorded, SameLinks}
use Rattle.variables.specs.Verdicts.{type_of, as_value, answered, RootsIn}
use Rattle.statics.proofs.Slots.{used≢live}
use Rattle.statics.proofs.LinkChains.{boxes_drop, same_behind, same_end}
use Rattle.statics.proofs.SetLaws.{rooted_out, borrows_out, borrows_in}
use Rattle.statics.proofs.SetOrder.{borrows_ordered, end_again}
use Rattle.statics.proofs.SetEquality.{same_list}
use Rattle.statics.proofs.NeatPaths.{Lies, own_link_law}
use Rattle.statics.proofs.RootLaws.{from_out, from_in}
use Rattle.statics.proofs.RootSets.{from_ordered}
use Rattle.variables.proofs.EntryLaws.{live_status}
use Rattle.variables.proofs.TableLaws.{kept_end}
use Rattle.variables.proofs.EndLaws.{told_variable, end_fits, no_places, linked_places}

-- ---- ends

-- The type of a number says no places.
pub number_type : (ks : List Link) (ps : List Place) → is_number ks ≡ true → type_of ks (borrow_end ks ps) ≡ number_ty
unfolding is_number borrow_end
number_type [] ps h = refl
number_type (k ∷ ks) ps h = absurd (false≢true h)

-- Nor do boxes taken away.
pub end_drop : (env : List Row) (d : ℕ) (ks : List Link) (s : Roots) → d ≤ leading_boxes ks → end_in env (drop d ks) s ≡ end_in env ks s
end_drop env d ks s h =
    ap (λ (l : List Link). borrow_end (drop d ks) (places_of 128 (has s) (long_at env) (length l))) (same_behind d ks h) ∙ same_end d ks (places_in env ks s) h

-- The end of the roots that a value records is the value's.
pub end_recorded : (env : List Row) (ks : List Link) (s r : Roots) → places (end_in env ks s) ≡ places_in env ks r → end_in env ks r ≡ end_in env ks s
end_recorded env ks s r h = ap (borrow_end ks) (sym h) ∙ sym (end_again ks (places_in env ks s))

-- ---- the roots of a value

pub roots_none : (v : Option ValueType) (r : Roots) → v ≡ None → ((y : ℕ) → has r y ≡ false) → RootsIn v r
roots_none v r e h = λ env nv. (0, ap (λ (w : Option ValueType). places (borrow_in nv (as_value env w))) e ∙ sym (no_places 128 (has r) (long_at env) 0 h))

pub roots_of : (v : Option ValueType) (t : ValueType) (r : Roots) → v ≡ Some t → ((env : List Row) → places (end_in env (chain_of t.links) t.roots) ≡ places_in env (chain_of t.links) r) → RootsIn v r
roots_of v t r e h = λ env nv. (left (chain_of t.links), ap (λ (w : Option ValueType). places (borrow_in nv (as_value env w))) e ∙ h env)

-- Whether they live long enough (LANGUAGE 3.28).
pub value_lives : (env : List Row) (nv level : ℕ) (v : Option ValueType) (r : Roots) (b : Bool) → RootsIn v r
    → ((m : ℕ) → b ≡ every (λ p. leb (level_of (environment_of env p.root)) level) (places_of 128 (has r) (long_at env) m)) → lives_at (environment_of env) (borrow_in nv (as_value env v)) level ≡ b
unfolding lives_at
value_lives env nv level v r b R h = let k = R env nv in ap (every (λ p. leb (level_of (environment_of env p.root)) level)) k.1 ∙ sym (h k.0)

-- ---- a table in which all links are as before

module _ (env env' : List Row) (S : SameLinks env env') where
  pub value_kept : (v : Option ValueType) → as_value env' v ≡ as_value env v
  value_kept None = refl
  value_kept (Some t) = ap (λ (b : Borrow). some (type_of (chain_of t.links) b)) (kept_end env env' S (chain_of t.links) t.roots)

  -- The end of a block (LANGUAGE 3.28).
  pub block_left : (nv level i : ℕ) (v : Option ValueType) → lives_at (environment_of env) (borrow_in nv (as_value env v)) level ≡ true → environment_of env' ≡ leave level (environment_of env)
      → answered env' i (Ok v) ≡ judge_block_end nv level (environment_of env) i (as_value env v)
  unfolding judge_block_end need ◌>>=◌
  block_left nv level i v h e = rw (h, e, value_kept v)

  -- What a move leaves, and its value (LANGUAGE 3.20): the links from the place on, with the variable's borrow end. The code has its root as x.
  pub moved_out : (x y f rest : ℕ) (s : Roots) → x ≡ y → environment_of env y ≡ live (variable_at env y) → f ≤ leading_boxes (chain_of (links_at env y)) → drop f (chain_of (links_at env y)) ≡ chain_of rest
      → s ≡ roots_at env x → environment_of env' ≡ update (environment_of env) x (moved_away_at (environment_of env x) f)
      → ◌≡◌ {A = Judged Out} (ok (environment_of env', some (type_of (chain_of rest) (end_in env' (chain_of rest) s))))
      (ok (update (environment_of env) y (live (moved_away (variable_at env y) f)), some (type_of (drop f (chain_of (links_at env y))) (variable_at env y).borrow)))
  moved_out x y f rest s at is own after r e =
      let state : environment_of env' ≡ update (environment_of env) y (live (moved_away (variable_at env y) f)) =
      e ∙ ap (λ (z : ℕ). update (environment_of env) z (moved_away_at (environment_of env z) f)) at ∙ ap (λ (k : Slot). update (environment_of env) y (moved_away_at k f)) is in
      let same : end_in env' (chain_of rest) s ≡ (variable_at env y).borrow =
      kept_end env env' S (chain_of rest) s ∙ ap (λ (ks : List Link). end_in env ks s) (sym after) ∙ end_drop env f (chain_of (links_at env y)) s own ∙ ap (end_in env (chain_of (links_at env y))) (r ∙ ap (roots_at env) at) in
      let type : type_of (chain_of rest) (end_in env' (chain_of rest) s) ≡ type_of (drop f (chain_of (links_at env y))) (variable_at env y).borrow = ap₂ type_of (sym after) same in
      ap₂ (λ (Δ : Environment) (t : Ty). ok (Δ, some t)) state type

-- ---- a number that is taken, and not in scope

-- What is recorded is in scope.
unrecorded_in : (Γ : Environment) (ks : List Link) (l : ℕ) (b : Borrow) (x : ℕ) → Holds Γ ks l b → Γ x ≡ used → rooted (places b) x ≡ false
unrecorded_in Γ ks l b x H u = go (rooted (places b) x) refl
  where
    go : (c : Bool) → rooted (places b) x ≡ c → c ≡ false
    go true e = let k = rooted_out (places b) x e in absurd (used≢live (sym u ∙ ap Γ (sym k.2) ∙ (H.recorded k.0 k.1).is))
    go false e = refl

-- The state that a let gives a variable (LANGUAGE 3.24): nothing is moved away, and it has the value's borrow end.
module _ (env : List Row) (t : ValueType) (d level : ℕ) (e : BorrowEnd) (whole : d ≡ suc (leading_boxes (chain_of t.links))) (told : e ≡ borrow_end_of (chain_of t.links) t.roots) where
  abbrev given : VariableState
  given = record { links = t.links; moved_from = d; borrow_end = e; level = level }

  pub let_fits : Fits given
  let_fits = rw told (end_fits (chain_of t.links) t.roots)

  let_variable : as_variable env given ≡ fresh (chain_of t.links) (end_in env (chain_of t.links) t.roots) level
  let_variable =
      ap₂ (λ (k : ℕ) (b : BorrowEnd). as_variable env (record { links = t.links; moved_from = k; borrow_end = b; level = level })) whole told
      ∙ told_variable env t.links (suc (leading_boxes (chain_of t.links))) t.roots level

  -- A number that is taken is recorded nowhere, nor by the value.
  pub unrecorded : (nv at x : ℕ) (v : Option ValueType) → Neat nv (environment_of env) at → environment_of env x ≡ used → v ≡ Some t → NeatValue (environment_of env) level (as_value env v) → Unrecorded env x (as_variable env given).borrow
  unfolding borrow_of rooted some_of
  unrecorded nv at x v N u o W = (
    λ y. go y (environment_of env y) refl,
    ap (λ (w : Variable). rooted (places w.borrow) x) let_variable
        ∙ unrecorded_in (environment_of env) (chain_of t.links) level (end_in env (chain_of t.links) t.roots) x (W (type_of (chain_of t.links) (end_in env (chain_of t.links) t.roots)) (ap (as_value env) o)) u,
  )
    where
      go : (y : ℕ) (sl : Slot) → environment_of env y ≡ sl → rooted (places (borrow_of sl)) x ≡ false
      go y free q = refl
      go y used q = refl
      go y (live v) q = unrecorded_in (environment_of env) v.chain v.level v.borrow x (N.holds y v q) u

  -- Let (LANGUAGE 3.24): the variable is in scope.
  pub let_there : (env' : List Row) (nv i x : ℕ) (v : Option ValueType) → v ≡ Some t → environment_of env' ≡ update (environment_of env) x (live (as_variable env given))
      → answered env' i (Ok None) ≡ judge_let nv level (environment_of env) i x (as_value env v)
  unfolding judge_let valued ◌>>=◌
  let_there env' nv i x v o h = rw o (ap (λ (Δ : Environment). ok (Δ, none)) (h ∙ ap (λ (w : Variable). update (environment_of env) x (live w)) let_variable))

-- ---- what is borrowed at the ends of a place

-- What is copied and no number has a borrow link first.
pub copied_borrow : (ks : List Link) → copies ks ≡ true → is_number ks ≡ false → leading_boxes ks < length ks
unfolding copies is_number leading_boxes
copied_borrow [] h k = absurd (false≢true (sym k))
copied_borrow (boxed ∷ ks) h k = absurd (false≢true h)
copied_borrow (shared ∷ ks) h k = omega arith
copied_borrow (exclusive ∷ ks) h k = absurd (false≢true h)

-- The variables where a place ends have the same links from there on, so what they record has the same links left.
module _ (env : List Row) (nv : ℕ) (ks : List Link) (to : List Place) (s r : Roots)
    (ends : (q : Place) → Among q to → (Lies (environment_of env) ks q) × (own_link (environment_of env q.root) q.follows ≡ true))
    (S : SameSet to (places_of nv (has s) (lengths (environment_of env)) (length ks))) (low : (y : ℕ) → has s y ≡ true → y < nv) (B : BorrowedAt env s r)
    (borrow : leading_boxes ks < length ks) where
  at_end : (q : Place) → Among q to → places (borrow_of (environment_of env q.root)) ≡ places_from (has (roots_at env q.root)) (long_at env) (left ks) 0 128
  unfolding borrow_of places_of
  at_end q i =
      let L = (ends q i).0 in
      let v = L.variable in
      let chain : v.chain ≡ chain_of (links_at env q.root) = ap (λ (u : Variable). u.chain) (live_status env q.root v L.is).1 in
      let own = own_link_law (environment_of env q.root) v q.follows L.is (ends q i).1 in
      let a = boxes_drop q.follows v.chain own in
      let b = length-drop q.follows v.chain in
      let e : leading_boxes (drop q.follows v.chain) ≡ leading_boxes ks = ap leading_boxes L.rest in
      let f : length (drop q.follows v.chain) ≡ length ks = ap (λ (l : List Link). length l) L.rest in
      let g = L.long in
      let longer : leading_boxes v.chain < length v.chain = omega arith in
      let rest : behind (chain_of (links_at env q.root)) ≡ behind ks = ap behind (sym chain) ∙ sym (same_behind q.follows v.chain own) ∙ ap behind L.rest in
      let is : environment_of env q.root ≡ live (variable_at env q.root) = L.is ∙ ap live (live_status env q.root v L.is).1 in
      ap (λ (k : Slot). places (borrow_of k)) is
      ∙ linked_places (chain_of (links_at env q.root)) (places_in env (chain_of (links_at env q.root)) (roots_at env q.root)) (subst (λ (l : List Link). leading_boxes l < length l) chain longer)
      ∙ ap (λ (l : List Link). places_of 128 (has (roots_at env q.root)) (long_at env) (length l)) rest

  -- They are the places of the united roots.
  pub borrows_there : borrows_at (environment_of env) to ≡ places_in env ks r
  unfolding places_of
  borrows_there = same_list (borrows_at (environment_of env) to) (places_from (has r) (long_at env) (left ks) 0 128) (borrows_ordered (environment_of env) to) (from_ordered (has r) (long_at env) (left ks) 0 128)
      (λ q i.
      let k = borrows_out (environment_of env) q to i in
      let o = from_out (has (roots_at env k.0.root)) (long_at env) (left ks) 0 128 q (subst (λ (l : List Place). Among q l) (at_end k.0 k.1) k.2) in
      let w = (from_out (has s) (lengths (environment_of env)) (length ks) 0 nv k.0 (S.to k.0 k.1)).2 in
      subst (λ (y : Place). Among y (places_from (has r) (long_at env) (left ks) 0 128)) (sym o.3) (from_in (has r) (long_at env) (left ks) 0 128 q.root (omega arith) o.1 (B.within k.0.root q.root w o.2)))
      (λ q i.
      let o = from_out (has r) (long_at env) (left ks) 0 128 q i in
      let b = B.from q.root o.2 in
      let e = place_at (lengths (environment_of env)) (length ks) b.0 in
      let l = low b.0 b.1 in
      let j = S.from e (from_in (has s) (lengths (environment_of env)) (length ks) 0 nv b.0 (omega arith) (omega arith) b.1) in
      borrows_in (environment_of env) q e to j (subst (λ (l : List Place). Among q l) (sym (at_end e j))
      (subst (λ (y : Place). Among y (places_from (has (roots_at env b.0)) (long_at env) (left ks) 0 128)) (sym o.3) (from_in (has (roots_at env b.0)) (long_at env) (left ks) 0 128 q.root (omega arith) o.1 b.2))))
