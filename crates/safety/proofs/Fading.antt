-- Names may forget what they borrow: any set of names, with no condition. Each keeps a reference of which nothing is known, and nothing that
-- is claimed of others rests on it.
use Prim.Native.Nat.{ℕ, suc, ◌+◌, ◌-◌, ◌≤◌, ◌<◌}
use native.Mathlib.Omega.{arith}
use mathlib.Core.Path.{◌≡◌, refl, sym, ap, ◌∙◌, subst}
use mathlib.Core.Logic.{◌≢◌}
use mathlib.Core.Option.{some}
use mathlib.Core.List.{List, [], ◌∷◌}
use lib.ListN.{drop}
use Rattle.syntax.specs.Script.{Place}
use Rattle.statics.specs.Links.{Link, boxed, shared, exclusive, leading_boxes}
use Rattle.dynamics.specs.Values.{Location, reference}
use Rattle.statics.proofs.Answers.{none≢some}
use Rattle.safety.proofs.Memory.{Name, in_drop, var, Spot, Content, has}
use Rattle.safety.proofs.Ghost.{Borrow, no_borrow, stale, shared_of, exclusive_of, Variable, Slot, vacant, live}
use Rattle.safety.proofs.Typing.{borrowed, Fits, boxes, Reach, here, hop, Ref, At, Holds, Typed}

abbrev pub fade : Borrow → Borrow
fade no_borrow = no_borrow
fade stale = stale
fade (shared_of p) = stale
fade (exclusive_of p) = stale

abbrev pub faded : Variable → Variable
faded Q = record { chain = Q.chain; moved_from = Q.moved_from; borrow = fade Q.borrow; level = Q.level }

fade_fits : (ks : List Link) (b : Borrow) → Fits ks b → Fits ks (fade b)
fade_fits [] no_borrow f = f
fade_fits [] stale f = f
fade_fits [] (shared_of p) f = f
fade_fits [] (exclusive_of p) f = f
fade_fits (boxed ∷ ks) b f = fade_fits ks b f
fade_fits (shared ∷ ks) no_borrow f = f
fade_fits (shared ∷ ks) stale f = f
fade_fits (shared ∷ ks) (shared_of p) f = f
fade_fits (shared ∷ ks) (exclusive_of p) f = absurd f
fade_fits (exclusive ∷ ks) no_borrow f = f
fade_fits (exclusive ∷ ks) stale f = f
fade_fits (exclusive ∷ ks) (shared_of p) f = absurd f
fade_fits (exclusive ∷ ks) (exclusive_of p) f = f

pub fade_none : (b : Borrow) (p : Place) → borrowed (fade b) ≡ some p → ⊥
fade_none no_borrow p e = none≢some e
fade_none stale p e = none≢some e
fade_none (shared_of q) p e = none≢some e
fade_none (exclusive_of q) p e = none≢some e

fade_number : (b : Borrow) → fade b ≡ no_borrow → b ≡ no_borrow
fade_number no_borrow e = refl
fade_number stale e = e
fade_number (shared_of q) e = let z : ◌≡◌ {A = ℕ} 0 1 = cc in absurd (omega arith)
fade_number (exclusive_of q) e = let z : ◌≡◌ {A = ℕ} 0 1 = cc in absurd (omega arith)

module _ {nv : ℕ} {G : Name → Type 0} {Γ : Name → Slot} {H : Name → Content} {ρ : Name → ℕ → Spot} {rank : Name → ℕ} (T : Typed nv G Γ H ρ rank)
    (X : Name → Type 0) (xDec : (z : Name) → Dec (X z))
    (Γ' : Name → Slot) (same : (z : Name) → (X z → ⊥) → Γ' z ≡ Γ z) (in-X : (z : Name) (Q' : Variable) → X z → Γ' z ≡ live Q' → (Q : Variable) × (Γ z ≡ live Q) × (Q' ≡ faded Q))
    (out-X : (z : Name) (Q : Variable) → X z → Γ z ≡ live Q → Γ' z ≡ live (faded Q)) where
  outdated_in : (z : Name) (Q : Variable) → Γ z ≡ live Q → boxes Q < Q.moved_from → fade Q.borrow ≡ stale
      → (l : Location) × (H z ≡ has (boxes Q) (reference l))
  outdated_in z Q e g f = go Q.borrow refl f
    where
      go : (b : Borrow) → Q.borrow ≡ b → fade b ≡ stale → (l : Location) × (H z ≡ has (boxes Q) (reference l))
      go no_borrow q f = let z : ◌≡◌ {A = ℕ} 0 1 = cc in absurd (omega arith)
      go stale q f = (T.at z Q e).outdated g q
      go (shared_of p) q f = let K = (T.at z Q e).refs g p (ap borrowed q) in (K.l, K.shape)
      go (exclusive_of p) q f = let K = (T.at z Q e).refs g p (ap borrowed q) in (K.l, K.shape)

  at_in : (z : Name) (Q : Variable) → Γ z ≡ live Q → At Γ' H ρ rank z (faded Q)
  at_in z Q e = record {
    fits = fade_fits Q.chain Q.borrow (T.at z Q e).fits;
    lost = (T.at z Q e).lost;
    number = λ g q. (T.at z Q e).number g (fade_number Q.borrow q);
    outdated = λ g q. outdated_in z Q e g q;
    refs = λ g p q. absurd (fade_none Q.borrow p q);
  }

  none_in : (x : Name) (Q : Variable) (p : Place) → X x → Holds Γ' x Q p → ⊥
  none_in x Q p h K = let u = in-X x Q h K.is in fade_none u.0.borrow p (ap (λ (k : Variable). borrowed k.borrow) (sym u.2) ∙ K.at)

  -- Where a place leads now, it led before: paths that pass a name which forgot are gone, and no other changed.
  reach_back : {w : Name} {d : ℕ} {y : Name} {r : ℕ} → Reach Γ' w d y r → Reach Γ w d y r
  reach_back {w} {d} (here Q e a b) = go (xDec w)
    where
      go : Dec (X w) → Reach Γ w d w d
      go (yes h) = let u = in-X w Q h e in here u.0 u.1 (subst (λ (k : Variable). d ≤ boxes k) u.2 a) (subst (λ (k : Variable). d ≤ k.moved_from) u.2 b)
      go (no h) = here Q (sym (same w h) ∙ e) a b
  reach_back {w} {d} {y} {r} (hop Q p e f a b D) = go (xDec y) (reach_back D)
    where
      go : Dec (X y) → Reach Γ w d (var p.root) (p.follows + (r - suc (boxes Q))) → Reach Γ w d y r
      go (yes h) E = absurd (none_in y Q p h (record { is = e; whole = a; at = f }))
      go (no h) E = hop Q p (sym (same y h) ∙ e) f a b E

  -- Who is in scope stays so.
  still : (z : Name) (Q : Variable) → Γ z ≡ live Q
      → (Z : Variable) × (Γ' z ≡ live Z) × (Z.chain ≡ Q.chain) × (Z.level ≡ Q.level) × (Z.moved_from ≡ Q.moved_from)
  still z Q e = go (xDec z)
    where
      go : Dec (X z) → (Z : Variable) × (Γ' z ≡ live Z) × (Z.chain ≡ Q.chain) × (Z.level ≡ Q.level) × (Z.moved_from ≡ Q.moved_from)
      go (yes h) = (faded Q, out-X z Q h e, refl, refl, refl)
      go (no h) = (Q, same z h ∙ e, refl, refl, refl)

  ref_out : (x : Name) (Q : Variable) (p : Place) → Ref Γ H ρ rank x Q p → Ref Γ' H ρ rank x Q p
  ref_out x Q p R =
      let Z = still (var p.root) R.W R.is in
      record {
        W = Z.0;
        is = Z.1;
        whole = subst (λ (k : ℕ). boxes Z.0 < k) (sym Z.4) (subst (λ (k : List Link). leading_boxes k < R.W.moved_from) (sym Z.2) R.whole);
        lower = R.lower;
        agree = R.agree ∙ ap (λ (k : List Link). drop p.follows k) (sym Z.2);
        long = rw Z.2 R.long;
        around = rw Z.3 R.around;
        unshared = λ h. rw Z.2 (R.unshared h);
        l = R.l;
        shape = R.shape;
        row = λ w d D. R.row w d (reach_back D);
      }

  at_out : (z : Name) (Q : Variable) → At Γ H ρ rank z Q → At Γ' H ρ rank z Q
  at_out z Q A = record { fits = A.fits; lost = A.lost; number = A.number; outdated = A.outdated; refs = λ g p q. ref_out z Q p (A.refs g p q) }

  holds_back : (x : Name) (Q : Variable) (p : Place) → Holds Γ' x Q p → Holds Γ x Q p
  holds_back x Q p K = go (xDec x)
    where
      go : Dec (X x) → Holds Γ x Q p
      go (yes h) = absurd (none_in x Q p h K)
      go (no h) = record { is = sym (same x h) ∙ K.is; whole = K.whole; at = K.at }

  fading : Typed nv G Γ' H ρ rank
  fading = record {
    at = at';
    bound = bound';
    quiet = quiet';
    exclusive = λ x y A B p q K L e h. T.exclusive x y A B p q (holds_back x A p K) (holds_back y B q L) e h;
    absent = λ x g n. T.absent x g (λ Q e. let Z = still x Q e in n Z.0 Z.1);
  }
    where
      at' : (z : Name) (Q : Variable) → Γ' z ≡ live Q → At Γ' H ρ rank z Q
      at' z Q e = elim (xDec z) [
        | yes h ↦ (let u = in-X z Q h e in subst (λ (k : Variable). At Γ' H ρ rank z k) (sym u.2) (at_in z u.0 u.1))
        | no h ↦ at_out z Q (T.at z Q (sym (same z h) ∙ e))
      ]

      bound' : (x : ℕ) (Q : Variable) → Γ' (var x) ≡ live Q → x < nv
      bound' x Q e = elim (xDec (var x)) [ yes h ↦ (let u = in-X (var x) Q h e in T.bound x u.0 u.1) | no h ↦ T.bound x Q (sym (same (var x) h) ∙ e) ]

      quiet' : (Q : Variable) → Γ' in_drop ≢ live Q
      quiet' Q e = elim (xDec in_drop) [ yes h ↦ (let u = in-X in_drop Q h e in T.quiet u.0 u.1) | no h ↦ T.quiet Q (sym (same in_drop h) ∙ e) ]

-- ---- the environment in which a set of names has forgotten

module _ (Γ : Name → Slot) (X : Name → Type 0) (xDec : (z : Name) → Dec (X z)) where
  faded_if : {A : Type 0} → Dec A → Slot → Slot
  faded_if (yes a) vacant = vacant
  faded_if (yes a) (live Q) = live (faded Q)
  faded_if (no a) g = g

  pub without : Name → Slot
  without z = faded_if (xDec z) (Γ z)

  pub without_off : (z : Name) → (X z → ⊥) → without z ≡ Γ z
  unfolding without faded_if
  without_off z n = go (xDec z)
    where
      go : (d : Dec (X z)) → faded_if d (Γ z) ≡ Γ z
      go (yes h) = absurd (n h)
      go (no h) = refl

  pub without_on : (z : Name) (Q : Variable) → X z → Γ z ≡ live Q → without z ≡ live (faded Q)
  unfolding without faded_if
  without_on z Q h e = rw e (go (xDec z))
    where
      go : (d : Dec (X z)) → faded_if d (live Q) ≡ live (faded Q)
      go (yes k) = refl
      go (no k) = absurd (k h)

  pub without_in : (z : Name) (Q' : Variable) → X z → without z ≡ live Q' → (Q : Variable) × (Γ z ≡ live Q) × (Q' ≡ faded Q)
  unfolding without faded_if
  without_in z Q' h e = go (xDec z) (Γ z) refl e
    where
      go : (d : Dec (X z)) (g : Slot) → Γ z ≡ g → faded_if d g ≡ live Q' → (Q : Variable) × (Γ z ≡ live Q) × (Q' ≡ faded Q)
      go (yes k) vacant f q = absurd (let z : ◌≡◌ {A = ℕ} 0 1 = cc in omega arith)
      go (yes k) (live Q) f q = (Q, f, (cc))
      go (no k) g f q = absurd (k h)

  pub without_vacant : (z : Name) → Γ z ≡ vacant → without z ≡ vacant
  unfolding without faded_if
  without_vacant z e = rw e (go (xDec z))
    where
      go : (d : Dec (X z)) → faded_if d vacant ≡ vacant
      go (yes k) = refl
      go (no k) = refl

-- It is typed as before. Nothing more is held in it, and by nobody who forgot.
module _ {nv : ℕ} {G : Name → Type 0} {Γ : Name → Slot} {H : Name → Content} {ρ : Name → ℕ → Spot} {rank : Name → ℕ} (T : Typed nv G Γ H ρ rank)
    (X : Name → Type 0) (xDec : (z : Name) → Dec (X z)) where
  pub without_typed : Typed nv G (without Γ X xDec) H ρ rank
  without_typed = fading T X xDec (without Γ X xDec) (without_off Γ X xDec) (without_in Γ X xDec) (without_on Γ X xDec)

  pub without_holds : (z : Name) (Q : Variable) (p : Place) → Holds (without Γ X xDec) z Q p → Holds Γ z Q p
  without_holds = holds_back T X xDec (without Γ X xDec) (without_off Γ X xDec) (without_in Γ X xDec) (without_on Γ X xDec)

  pub without_none : (z : Name) (Q : Variable) (p : Place) → X z → Holds (without Γ X xDec) z Q p → ⊥
  without_none = none_in T X xDec (without Γ X xDec) (without_off Γ X xDec) (without_in Γ X xDec) (without_on Γ X xDec)
