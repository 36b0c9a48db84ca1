-- The table between the blocks of a choice and after it: row by row the state kept is put back, or joined; at the end the table says what the
-- rules say.
use Prim.Native.Nat.{ℕ, ◌+◌, ◌≤◌, ◌<◌}
use native.Mathlib.Omega.{arith}
use native.Mathlib.Decide.{dec_lt}
use mathlib.Core.Path.{◌≡◌, refl, sym, ap, ap₂, fun_ext, ◌∙◌, subst}
use mathlib.Core.List.{List}
use lib.ListN.{length, set}
use borrow.Author.Tests.{eq-eqb, ne_eqb}
use Rattle.variables.specs.declared.table.Row.{Row}
use Rattle.statics.specs.Links.{Link}
use Rattle.statics.specs.Places.{unite}
use Rattle.statics.specs.Environment.{Borrow, places, borrow_end, Variable, Slot, free, used, live, Environment, update, borrow_of}
use Rattle.statics.specs.Choice.{carried_slot, carried, moved_from_of, earlier, joined_slot, joined}
use Rattle.statics.specs.Neat.{Among, Neat}
use Rattle.statics.specs.Roots.{links_of, lengths, place_at, left}
use Rattle.variables.specs.Table.{long_at, end_in, environment_of, SameLinks}
use Rattle.choices.specs.declared.choice.KeptState.{KeptState}
use Rattle.choices.specs.Kept.{kept_at, restored, joined_with, KeptAs, KeepsAll, Stays, Given, Exchanged}
use Rattle.statics.proofs.Slots.{free≢live, used≢live, free≢used, carried_live, live_carried}
use Rattle.variables.proofs.EndRoots.{end_lengths, live_length}
use Rattle.variables.proofs.TableLaws.{kept_end}
use Rattle.choices.proofs.KeptLaws.{put_here, put_there, keeps_all}

-- ---- the rounds of the loops

-- Only the state of x has changed.
module _ (n : ℕ) (env : List Row) (x : ℕ) (f : Slot → Slot) (env' : List Row) (G : Given n env x f env') where
  given_here : environment_of env' x ≡ f (environment_of env x)
  unfolding update
  given_here = ap (λ (Γ : Environment). Γ x) G.state ∙ rw (eq-eqb x x refl) refl

  given_there : (y : ℕ) → (x ≡ y → ⊥) → environment_of env' y ≡ environment_of env y
  unfolding update
  given_there y q = ap (λ (Γ : Environment). Γ y) G.state ∙ rw (ne_eqb x y q) refl

-- Numbers before x have what f says of the state at first; from x on all is as at first.
pub record Giving (env₀ : List Row) (f : ℕ → Slot → Slot) (x : ℕ) (env : List Row) : Type 0 where
  pub links : SameLinks env₀ env
  pub done : (y : ℕ) → y < x → environment_of env y ≡ f y (environment_of env₀ y)
  pub rest : (y : ℕ) → x ≤ y → environment_of env y ≡ environment_of env₀ y

giving_first : (env : List Row) (f : ℕ → Slot → Slot) → Giving env f 0 env
giving_first env f = record { links = λ y. refl; done = λ y l. absurd (omega arith); rest = λ y l. refl }

-- In a round x is given what g says of the table then, which is what f says.
giving_next : (n : ℕ) (env₀ : List Row) (f : ℕ → Slot → Slot) (x : ℕ) (env : List Row) (g : Slot → Slot) (env' : List Row) → ((z : Slot) → g z ≡ f x z)
    → Given n env x g env' → Giving env₀ f x env → Giving env₀ f (x + 1) env'
giving_next n env₀ f x env g env' same G E = record {
  links = λ y. G.links y ∙ E.links y;
  done = λ y l. go y l (dec_lt y x);
  rest = λ y l. given_there n env x g env' G y (λ e. omega arith) ∙ E.rest y (omega arith);
}
  where
    here : environment_of env' x ≡ f x (environment_of env₀ x)
    here = given_here n env x g env' G ∙ same (environment_of env x) ∙ ap (f x) (E.rest x (omega arith))

    go : (y : ℕ) → y < x + 1 → Dec (y < x) → environment_of env' y ≡ f y (environment_of env₀ y)
    go y l (yes k) = given_there n env x g env' G y (λ e. omega arith) ∙ E.done y k
    go y l (no k) = let q : x ≡ y = omega arith in subst (λ (z : ℕ). environment_of env' z ≡ f z (environment_of env₀ z)) q here

-- What is kept of each number, as f says of a state.
abbrev pub each : (KeptState → Slot → Slot) → List KeptState → ℕ → Slot → Slot
each f kept y = f (kept_at kept y)

-- The state kept is given back, and what the table had is kept.
pub record Exchanging (env₀ : List Row) (kept₀ : List KeptState) (x : ℕ) (env : List Row) (kept : List KeptState) : Type 0 where
  pub giving : Giving env₀ (each (restored env₀) kept₀) x env
  pub done : (y : ℕ) → y < x → KeptAs (kept_at kept y) env₀ y
  pub rest : (y : ℕ) → x ≤ y → kept_at kept y ≡ kept_at kept₀ y

pub exchanging_first : (env : List Row) (kept : List KeptState) → Exchanging env kept 0 env kept
exchanging_first env kept = record { giving = giving_first env (each (restored env) kept); done = λ y l. absurd (omega arith); rest = λ y l. refl }

pub exchanging_next : (n : ℕ) (env₀ : List Row) (kept₀ : List KeptState) (x : ℕ) (env : List Row) (kept : List KeptState) (env' : List Row) (k' : KeptState)
    → x < length kept → Exchanged n env (kept_at kept x) x env' k' → Exchanging env₀ kept₀ x env kept → Exchanging env₀ kept₀ (x + 1) env' (set kept x k')
exchanging_next n env₀ kept₀ x env kept env' k' inside S E = record {
  giving = giving_next n env₀ (each (restored env₀) kept₀) x env (restored env (kept_at kept x)) env' same S.given E.giving;
  done = λ y l. go y l (dec_lt y x);
  rest = λ y l. put_there kept x k' y (λ e. omega arith) ∙ E.rest y (omega arith);
}
  where
    L : SameLinks env₀ env
    L = E.giving.links

    same : (z : Slot) → restored env (kept_at kept x) z ≡ restored env₀ (kept_at kept₀ x) z
    same free = refl
    same used = refl
    same (live v) =
        ap (λ (b : Borrow). live (record { chain = v.chain; moved_from = (kept_at kept x).moved_from; borrow = b; level = v.level })) (kept_end env₀ env L v.chain (kept_at kept x).roots)
        ∙ ap (λ (k : KeptState). restored env₀ k (live v)) (E.rest x (omega arith))

    here : KeptAs k' env₀ x
    here v q = let K = S.here v (E.giving.rest x (omega arith) ∙ q) in (K.0, sym (kept_end env₀ env L v.chain k'.roots) ∙ K.1)

    go : (y : ℕ) → y < x + 1 → Dec (y < x) → KeptAs (kept_at (set kept x k') y) env₀ y
    go y l (yes b) = subst (λ (k : KeptState). KeptAs k env₀ y) (sym (put_there kept x k' y (λ e. omega arith))) (E.done y b)
    go y l (no b) =
        let q : x ≡ y = omega arith in
        subst (λ (z : ℕ). KeptAs (kept_at (set kept x k') z) env₀ z) q (subst (λ (k : KeptState). KeptAs k env₀ x) (sym (put_here kept x k' inside)) here)

-- What is kept is joined with what the table has.
abbrev pub Joining : List Row → List KeptState → ℕ → List Row → Type 0
Joining env₀ kept x env = Giving env₀ (each (joined_with env₀) kept) x env

pub joining_first : (env : List Row) (kept : List KeptState) → Joining env kept 0 env
joining_first env kept = giving_first env (each (joined_with env) kept)

pub joining_next : (n : ℕ) (env₀ : List Row) (kept : List KeptState) (x : ℕ) (env env' : List Row) → Given n env x (joined_with env (kept_at kept x)) env' → Joining env₀ kept x env
    → Joining env₀ kept (x + 1) env'
unfolding borrow_of
joining_next n env₀ kept x env env' G E = giving_next n env₀ (each (joined_with env₀) kept) x env (joined_with env (kept_at kept x)) env' same G E
  where
    same : (z : Slot) → joined_with env (kept_at kept x) z ≡ joined_with env₀ (kept_at kept x) z
    same free = refl
    same used = refl
    same (live v) =
        ap (λ (b : Borrow). live (record { chain = v.chain; moved_from = earlier (kept_at kept x).moved_from v.moved_from; borrow = borrow_end v.chain (unite (places b) (places v.borrow)); level = v.level }))
        (kept_end env₀ env E.links v.chain (kept_at kept x).roots)

-- A number that was not in scope is as it was.
dead_same : (env₀ : List Row) (f : ℕ → Slot → Slot) (count : ℕ) (env : List Row) → Giving env₀ f count env → ((y : ℕ) → (f y free ≡ free) × (f y used ≡ used))
    → (x : ℕ) → ((v : Variable) → environment_of env₀ x ≡ live v → ⊥) → environment_of env x ≡ environment_of env₀ x
dead_same env₀ f count env E stays x dead = go (dec_lt x count)
  where
    same : (z : Slot) → environment_of env₀ x ≡ z → f x z ≡ z
    same free q = (stays x).0
    same used q = (stays x).1
    same (live v) q = absurd (dead v q)

    go : Dec (x < count) → environment_of env x ≡ environment_of env₀ x
    go (yes l) = E.done x l ∙ same (environment_of env₀ x) refl
    go (no l) = E.rest x (omega arith)

-- ---- what the table says at the end

-- The borrow end kept of a variable, in a table with the same lengths.
kept_borrow : (n level : ℕ) (Γ : Environment) → Neat n Γ level → (kept : List KeptState) (count : ℕ) → KeepsAll kept count Γ → (env : List Row)
    → ((y : ℕ) (u : Variable) → Γ y ≡ live u → long_at env y ≡ length u.chain) → (x : ℕ) (w : Variable) → Γ x ≡ live w
    → end_in env w.chain (kept_at kept x).roots ≡ w.borrow
unfolding links_of
kept_borrow n level Γ N kept count K env long x w e =
    let b = (K x w e).borrow in
    let H = N.holds x w e in
    sym (b ∙ end_lengths w.chain (kept_at kept x).roots (lengths Γ) (long_at env) (left w.chain) (λ y i.
    let R = H.recorded (place_at (lengths Γ) (left w.chain) y) (subst (λ (k : Borrow). Among (place_at (lengths Γ) (left w.chain) y) (places k)) (sym b) i) in
    ap links_of R.is ∙ sym (long y R.variable R.is)))

-- A number that is not in scope is carried on as it is.
carried_dead : (a b : Slot) → ((v : Variable) → a ≡ live v → ⊥) → ((v : Variable) → b ≡ live v → ⊥) → (a ≡ used → b ≡ used) → carried_slot a b ≡ b
carried_dead free free f g h = refl
carried_dead free used f g h = refl
carried_dead free (live v) f g h = absurd (g v refl)
carried_dead used b f g h = sym (h refl)
carried_dead (live v) b f g h = absurd (f v refl)

module _ (n level count : ℕ) (env₀ : List Row) (kept₀ : List KeptState) (env : List Row) (kept : List KeptState) (E : Exchanging env₀ kept₀ count env kept) (level₁ : ℕ) (N₁ : Neat n (environment_of env₀) level₁)
    (Γ : Environment) (N : Neat n Γ level) (K : KeepsAll kept₀ count Γ) (S : Stays Γ (environment_of env₀)) where
  long_before : (y : ℕ) (u : Variable) → Γ y ≡ live u → long_at env₀ y ≡ length u.chain
  long_before y u e = let w = S.lives y u e in (live_length env₀ y w.0 w.1).0 ∙ ap (λ (ks : List Link). length ks) w.2

  dead_restored : (x : ℕ) → ((v : Variable) → environment_of env₀ x ≡ live v → ⊥) → environment_of env x ≡ environment_of env₀ x
  dead_restored = dead_same env₀ (each (restored env₀) kept₀) count env E.giving (λ y. (refl, refl))

  restored_at : (x : ℕ) (sl : Slot) → Γ x ≡ sl → environment_of env x ≡ carried_slot sl (environment_of env₀ x)
  restored_at x free e =
      let gone : (v : Variable) → environment_of env₀ x ≡ live v → ⊥ = λ v h. free≢live (sym e ∙ (S.lived x v h).1) in
      dead_restored x gone ∙ sym (carried_dead free (environment_of env₀ x) (λ v h. free≢live h) gone (λ h. absurd (free≢used h)))
  restored_at x used e = let u = S.taken x e in dead_restored x (λ v h. used≢live (sym u ∙ h)) ∙ u
  restored_at x (live v) e =
      let w = S.lives x v e in
      let k = K x v e in
      let borrow : end_in env₀ w.0.chain (kept_at kept₀ x).roots ≡ v.borrow = ap (λ (ks : List Link). end_in env₀ ks (kept_at kept₀ x).roots) w.2 ∙ kept_borrow n level Γ N kept₀ count K env₀ long_before x v e in
      let q : record { chain = w.0.chain; moved_from = (kept_at kept₀ x).moved_from; borrow = end_in env₀ w.0.chain (kept_at kept₀ x).roots; level = w.0.level } ≡ v =
      λ j. record { chain = w.2 j; moved_from = sym k.moved_from j; borrow = borrow j; level = w.3 j } in
      E.giving.done x k.low ∙ ap (restored env₀ (kept_at kept₀ x)) w.1 ∙ ap live q

  -- The state before the choice again, but for the numbers taken since; that after the first block is kept.
  pub restored_is : (environment_of env ≡ carried Γ (environment_of env₀)) × (KeepsAll kept count (environment_of env₀))
  unfolding carried
  restored_is = (
    fun_ext (λ x. restored_at x (Γ x) refl),
    keeps_all n level₁ env₀ kept count N₁ (λ x v e. let w = S.lived x v e in (K x w.0 w.1).low) E.done,
  )

module _ (n level count : ℕ) (env₀ : List Row) (kept : List KeptState) (env : List Row) (J : Joining env₀ kept count env) (Γ Γ₁ : Environment) (N₁ : Neat n Γ₁ level) (K : KeepsAll kept count Γ₁)
    (S₁ : Stays Γ Γ₁) (S₂ : Stays (carried Γ Γ₁) (environment_of env₀)) where
  -- A variable in scope before the choice, after its second block.
  after_second : (y : ℕ) (v : Variable) → Γ y ≡ live v → (w : Variable) × (environment_of env₀ y ≡ live w) × (w.chain ≡ v.chain) × (w.level ≡ v.level)
  unfolding carried
  after_second y v e = S₂.lives y v (live_carried (Γ y) (Γ₁ y) v e)

  long_after : (y : ℕ) (u : Variable) → Γ₁ y ≡ live u → long_at env₀ y ≡ length u.chain
  long_after y u e =
      let v = S₁.lived y u e in
      let a = S₁.lives y v.0 v.1 in
      let z : a.0 ≡ u = (let q : live a.0 ≡ live u = sym a.1 ∙ e in cc) in
      let w = after_second y v.0 v.1 in
      (live_length env₀ y w.0 w.1).0 ∙ ap (λ (ks : List Link). length ks) (w.2 ∙ sym a.2 ∙ ap (λ (k : Variable). k.chain) z)

  -- Not in scope after the second block, as before it.
  dead_after : (x : ℕ) → ((v : Variable) → Γ x ≡ live v → ⊥) → (v : Variable) → environment_of env₀ x ≡ live v → ⊥
  unfolding carried
  dead_after x dead v h = let w = S₂.lived x v h in dead w.0 (carried_live (Γ x) (Γ₁ x) w.0 w.1)

  dead_joined : (x : ℕ) → ((v : Variable) → environment_of env₀ x ≡ live v → ⊥) → environment_of env x ≡ environment_of env₀ x
  dead_joined = dead_same env₀ (each (joined_with env₀) kept) count env J (λ y. (refl, refl))

  joined_at : (x : ℕ) (sl : Slot) → Γ x ≡ sl → environment_of env x ≡ joined_slot sl (Γ₁ x) (environment_of env₀ x)
  unfolding carried borrow_of
  joined_at x free e =
      let gone = dead_after x (λ v h. free≢live (sym e ∙ h)) in
      dead_joined x gone
      ∙ sym (carried_dead (carried_slot free (Γ₁ x)) (environment_of env₀ x) (λ v h. free≢live (carried_live free (Γ₁ x) v h)) gone
      (λ h. S₂.taken x (ap (λ (sl : Slot). carried_slot sl (Γ₁ x)) e ∙ h)))
  joined_at x used e = let u = S₂.taken x (ap (λ (sl : Slot). carried_slot sl (Γ₁ x)) e) in dead_joined x (λ v h. used≢live (sym u ∙ h)) ∙ u
  joined_at x (live v) e =
      let a = S₁.lives x v e in
      let w = after_second x v e in
      let k = K x a.0 a.1 in
      let first : end_in env₀ w.0.chain (kept_at kept x).roots ≡ borrow_of (Γ₁ x) =
      ap (λ (ks : List Link). end_in env₀ ks (kept_at kept x).roots) (w.2 ∙ sym a.2) ∙ kept_borrow n level Γ₁ N₁ kept count K env₀ long_after x a.0 a.1 ∙ ap borrow_of (sym a.1) in
      let second : w.0.borrow ≡ borrow_of (environment_of env₀ x) = ap borrow_of (sym w.1) in
      let moved : earlier (kept_at kept x).moved_from w.0.moved_from ≡ earlier (moved_from_of (Γ₁ x)) (moved_from_of (environment_of env₀ x)) =
      ap₂ earlier (sym k.moved_from ∙ ap moved_from_of (sym a.1)) (ap moved_from_of (sym w.1)) in
      let q : joined_with env₀ (kept_at kept x) (live w.0) ≡ joined_slot (live v) (Γ₁ x) (environment_of env₀ x) =
      λ j. live (record { chain = w.2 j; moved_from = moved j; borrow = borrow_end (w.2 j) (unite (places (first j)) (places (second j))); level = w.3 j }) in
      J.done x k.low ∙ ap (joined_with env₀ (kept_at kept x)) w.1 ∙ q

  pub joined_is : environment_of env ≡ joined Γ Γ₁ (environment_of env₀)
  unfolding joined
  joined_is = fun_ext (λ x. joined_at x (Γ x) refl)
