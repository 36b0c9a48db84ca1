-- Terms without a block leave a neat state and value: copy, move, borrow, box, let.
use Prim.Native.Nat.{ℕ, suc, ◌+◌, ◌-◌, ◌≤◌, ◌<◌}
use native.Mathlib.Omega.{arith}
use native.Mathlib.Decide.{ℕ_discrete}
use mathlib.Core.Path.{◌≡◌, refl, sym, ap, ◌∙◌, subst}
use mathlib.Core.Logic.{◌≢◌, ◌⊎◌, inl, inr}
use mathlib.Core.Bool.{not}
use mathlib.Core.Option.{Option, none, some}
use mathlib.Core.List.{List, [], ◌∷◌}
use lib.ListN.{length, take, drop, length-drop}
use lib.Dec.{leb}
use borrow.Author.Tests.{leb-true}
use Rattle.syntax.specs.Result.{ok, ◌>>=◌, need}
use Rattle.syntax.specs.Script.{Place}
use Rattle.statics.specs.Links.{Link, boxed, shared, exclusive, max_links, leading_boxes, no_shared, last_shared, copies}
use Rattle.statics.specs.Environment.{shared_of, exclusive_of, borrow_end, Variable, free, used, live, Environment, Ty, update, fresh, moved_away, borrows_at}
use Rattle.statics.specs.Follow.{past, value_whole}
use Rattle.statics.specs.Uses.{Unfinished}
use Rattle.statics.specs.Bars.{write_barred}
use Rattle.statics.specs.Rules.{Out, in_scope, valued, Located, judge_place, judge_readable, judge_copy, judge_move, recorded_places, judge_shared, judge_exclusive, judge_box, judge_let}
use Rattle.statics.specs.Neat.{place, Among, Ordered, behind, Recorded, Holds, Neat, NeatValue}
use Rattle.syntax.proofs.Answers.{then, needed}
use Rattle.statics.proofs.Answers.{err≢ok, same_answer, scoped}
use Rattle.statics.proofs.Slots.{free≢live, used≢live, free≢used, update_same, update_other}
use Rattle.statics.proofs.LinkChains.{drop_add, last_at}
use Rattle.statics.proofs.SetLaws.{past_out}
use Rattle.statics.proofs.SetOrder.{past_ordered, borrows_ordered}
use Rattle.statics.proofs.NeatSteps.{Lives, Back, Fine, holds_in, holds_level, holds_box, holds_drop, holds_set, no_value, some_value, same_state, fine_step}
use Rattle.statics.proofs.NeatPaths.{recorded_past, led, borrowed_there}

-- The judge's answer on a place that is read.
pub readable_place : (nv : ℕ) (ns : Unfinished) (Γ : Environment) (i : ℕ) (p : Place) (l : Located) → judge_readable nv ns Γ i p ≡ ok l → judge_place nv Γ i p ≡ ok l
unfolding judge_readable
readable_place nv ns Γ i p l h =
    let a = then (judge_place nv Γ i p) _ l h in
    let b = then (need _ (33, i)) _ l a.2 in
    let c = then (need _ (34, i)) _ l b.2 in
    let e : a.0 ≡ l = let z = c.2 in cc in
    a.1 ∙ ap ok e

module _ {nv : ℕ} {Γ : Environment} {level : ℕ} (N : Neat nv Γ level) where
  abbrev After : Out → Type 0
  After out = Fine nv Γ out.0 out.1 level

  pub neat_copy : (ns : Unfinished) (i : ℕ) (p : Place) (out : Out) → judge_copy nv ns Γ i p ≡ ok out → After out
  unfolding judge_copy
  neat_copy ns i p out h =
      let a = then (judge_readable nv ns Γ i p) _ out h in
      let c = then (need (copies (drop p.follows a.0.root.chain)) (37, i)) _ out a.2 in
      let L = led N i p a.0 (readable_place nv ns Γ i p a.0 a.1) in
      let ks = drop p.follows a.0.root.chain in
      let t : Ty = record { links = ks; borrow = borrow_end ks (borrows_at Γ a.0.to) } in
      let z : (Γ, some t) ≡ out = let k = c.2 in cc in
      subst After z (same_state N (some_value Γ level t (holds_set ks (borrows_at Γ a.0.to) (borrowed_there N p a.0 L) (borrows_ordered Γ a.0.to))))

  -- ---- borrows

  -- A place in scope and long enough, borrowed by a link before the links that are left.
  new_place : (p : Place) (v : Variable) → Γ p.root ≡ live v → p.follows ≤ length v.chain → (ks : List Link) → behind ks ≡ drop p.follows v.chain → (q : Place) → Among q (p ∷ [])
      → Recorded Γ ks level q
  new_place p v e l ks z q (inl h) = subst (λ (y : Place). Recorded Γ ks level y) (sym h) (record { variable = v; is = e; around = N.deep p.root v e; long = l; rest = sym z })
  new_place p v e l ks z q (inr h) = absurd h

  one_ordered : (p : Place) → Ordered (p ∷ [])
  one_ordered p = (λ q i. absurd i, tt)

  pub neat_exclusive : (ns : Unfinished) (i : ℕ) (p : Place) (out : Out) → judge_exclusive nv ns Γ i p ≡ ok out → After out
  unfolding judge_exclusive leading_boxes borrow_end
  neat_exclusive ns i p out h =
      let a = then (judge_place nv Γ i p) _ out h in
      let w = then (need (value_whole nv Γ p.root a.0.root) (33, i)) _ out a.2 in
      let u = then (need (no_shared (take p.follows a.0.root.chain)) (36, i)) _ out w.2 in
      let b = then (need (not (write_barred nv ns Γ p.root)) (35, i)) _ out u.2 in
      let ks = exclusive ∷ drop p.follows a.0.root.chain in
      let c = then (need (leb (length ks) max_links) (42, i)) _ out b.2 in
      let L = led N i p a.0 a.1 in
      let t : Ty = record { links = ks; borrow = exclusive_of (p ∷ []) } in
      let z : (Γ, some t) ≡ out = same_answer c.2 in
      subst After z (same_state N (some_value Γ level t (holds_set ks (p ∷ []) (new_place p a.0.root L.is L.long ks refl) (one_ordered p))))

  -- The places that a shared borrow records: the one named, or what the last shared link passed borrows, with the follows that remain.
  recorded_shared : (i : ℕ) (p : Place) (v : Variable) → Γ p.root ≡ live v → p.follows ≤ length v.chain → (o : Option ℕ) → last_shared (take p.follows v.chain) ≡ o
      → (ps : List Place) → recorded_places nv Γ i p o ≡ ok ps → Holds Γ (shared ∷ drop p.follows v.chain) level (shared_of ps)
  unfolding recorded_places leading_boxes borrow_end
  recorded_shared i p v e lo none s ps h =
      let z : p ∷ [] ≡ ps = cc in
      subst (λ (k : List Place). Holds Γ (shared ∷ drop p.follows v.chain) level (shared_of k)) z
      (holds_set (shared ∷ drop p.follows v.chain) (p ∷ []) (new_place p v e lo (shared ∷ drop p.follows v.chain) refl) (one_ordered p))
  recorded_shared i p v e lo (some j) s ps h =
      let a = then (judge_place nv Γ i (place p.root j)) _ ps h in
      let z : past (borrows_at Γ a.0.to) (p.follows - suc j) ≡ ps = same_answer a.2 in
      let L = led N i (place p.root j) a.0 a.1 in
      let y : a.0.root ≡ v = (let k : live a.0.root ≡ live v = sym L.is ∙ e in cc) in
      let A = last_at p.follows v.chain j s in
      let w : drop j a.0.root.chain ≡ shared ∷ drop (suc j) v.chain = ap (λ (k : Variable). drop j k.chain) y ∙ A.1 in
      let len = length-drop (suc j) v.chain in
      let x : suc j + (p.follows - suc j) ≡ p.follows = omega (arith, A.0) in
      let more : drop (p.follows - suc j) (drop (suc j) v.chain) ≡ drop p.follows v.chain = sym (drop_add (suc j) (p.follows - suc j) v.chain) ∙ ap (λ (k : ℕ). drop k v.chain) x in
      subst (λ (k : List Place). Holds Γ (shared ∷ drop p.follows v.chain) level (shared_of k)) z
      (holds_set (shared ∷ drop p.follows v.chain) (past (borrows_at Γ a.0.to) (p.follows - suc j)) (λ q i.
      let k = past_out q (borrows_at Γ a.0.to) (p.follows - suc j) i in
      let R : Recorded Γ (shared ∷ drop (suc j) v.chain) level k.0 = subst (λ (y : List Link). Recorded Γ y level k.0) w (borrowed_there N (place p.root j) a.0 L k.0 k.1) in
      subst (λ (y : Place). Recorded Γ (shared ∷ drop p.follows v.chain) level y) (sym k.2)
      (recorded_past (shared ∷ drop p.follows v.chain) (p.follows - suc j) R (omega (arith, A.0, lo, len)) more))
      (past_ordered (borrows_at Γ a.0.to) (p.follows - suc j) (borrows_ordered Γ a.0.to)))

  pub neat_shared : (ns : Unfinished) (i : ℕ) (p : Place) (out : Out) → judge_shared nv ns Γ i p ≡ ok out → After out
  unfolding judge_shared
  neat_shared ns i p out h =
      let a = then (judge_readable nv ns Γ i p) _ out h in
      let ks = shared ∷ drop p.follows a.0.root.chain in
      let c = then (need (leb (length ks) max_links) (42, i)) _ out a.2 in
      let d = then (recorded_places nv Γ i p (last_shared (take p.follows a.0.root.chain))) _ out c.2 in
      let L = led N i p a.0 (readable_place nv ns Γ i p a.0 a.1) in
      let t : Ty = record { links = ks; borrow = shared_of d.0 } in
      let z : (Γ, some t) ≡ out = let k = d.2 in cc in
      subst After z (same_state N (some_value Γ level t (recorded_shared i p a.0.root L.is L.long (last_shared (take p.follows a.0.root.chain)) refl d.0 d.1)))

  -- ---- one variable changed

  changed_lives : (x : ℕ) (v w : Variable) → Γ x ≡ live v → w.chain ≡ v.chain → w.level ≡ v.level → Lives Γ (update Γ x (live w))
  changed_lives x v w e c l y k f = go (ℕ_discrete y x)
    where
      go : Dec (y ≡ x) → (q : Variable) × (update Γ x (live w) y ≡ live q) × (q.chain ≡ k.chain) × (q.level ≡ k.level)
      go (yes h) =
          let z : v ≡ k = (let a : Γ x ≡ live k = ap Γ (sym h) ∙ f in cc) in
          (w, ap (λ (z : ℕ). update Γ x (live w) z) h ∙ update_same Γ x (live w), c ∙ ap (λ (u : Variable). u.chain) z, l ∙ ap (λ (u : Variable). u.level) z)
      go (no h) = (k, update_other Γ x (live w) y h ∙ f, refl, refl)

  changed_back : (x : ℕ) (v w : Variable) → Γ x ≡ live v → v.level ≡ w.level → Holds Γ w.chain w.level w.borrow → Back Γ (update Γ x (live w))
  changed_back x v w e l H y k f = go (ℕ_discrete y x)
    where
      go : Dec (y ≡ x) → (u : Variable) × (Γ y ≡ live u) × (u.level ≡ k.level) × (Holds Γ k.chain k.level k.borrow)
      go (yes h) =
          let z : w ≡ k = (let a : live w ≡ live k = sym (update_same Γ x (live w)) ∙ ap (λ (z : ℕ). update Γ x (live w) z) (sym h) ∙ f in cc) in
          (v, ap Γ h ∙ e, l ∙ ap (λ (u : Variable). u.level) z, subst (λ (u : Variable). Holds Γ u.chain u.level u.borrow) z H)
      go (no h) = let g = sym (update_other Γ x (live w) y h) ∙ f in (k, g, refl, N.holds y k g)

  pub neat_move : (ns : Unfinished) (i : ℕ) (p : Place) (out : Out) → judge_move nv ns Γ i p ≡ ok out → After out
  unfolding judge_move
  neat_move ns i p out h =
      let a = then (in_scope (Γ p.root) (31, i)) _ out h in
      let b = then (need (leb p.follows (length a.0.chain)) (32, i)) _ out a.2 in
      let c = then (need (leb p.follows (leading_boxes a.0.chain)) (38, i)) _ out b.2 in
      let d = then (need (value_whole nv Γ p.root a.0) (33, i)) _ out c.2 in
      let e = then (need (not (write_barred nv ns Γ p.root)) (35, i)) _ out d.2 in
      let v = a.0 in
      let is = scoped _ _ _ a.1 in
      let H = N.holds p.root v is in
      let t : Ty = record { links = drop p.follows v.chain; borrow = v.borrow } in
      let z : (update Γ p.root (live (moved_away v p.follows)), some t) ≡ out = let k = e.2 in cc in
      subst After z (fine_step N
      (changed_lives p.root v (moved_away v p.follows) is refl refl)
      (changed_back p.root v (moved_away v p.follows) is refl H)
      (λ x u. update_other Γ p.root (live (moved_away v p.follows)) x (λ q. used≢live (sym u ∙ ap Γ q ∙ is)) ∙ u)
      (some_value Γ level t (holds_level (N.deep p.root v is) (holds_drop p.follows (leb-true _ _ (needed _ _ _ c.1)) H))))

  pub neat_box : (i : ℕ) (o : Option Ty) (out : Out) → NeatValue Γ level o → judge_box nv Γ i o ≡ ok out → After out
  unfolding judge_box valued ◌>>=◌
  neat_box i none out V₀ h = absurd (err≢ok h)
  neat_box i (some t) out V₀ h =
      let b = then (need (leb (length (boxed ∷ t.links)) max_links) (42, i)) _ out h in
      let u : Ty = record { links = boxed ∷ t.links; borrow = t.borrow } in
      let z : (Γ, some u) ≡ out = let k = b.2 in cc in
      subst After z (same_state N (some_value Γ level u (holds_box (V₀ t refl))))

  -- ---- a variable comes into scope

  pub record Declared (x : ℕ) (out : Out) : Type 0 where
    pub neat : Neat nv out.0 level
    pub no_value : out.1 ≡ none
    pub other : (y : ℕ) → y ≢ x → out.0 y ≡ Γ y
    pub here : (v : Variable) → out.0 x ≡ live v → v.level ≡ level

  pub neat_let : (i x : ℕ) (o : Option Ty) (out : Out) → Γ x ≡ used → x < nv → NeatValue Γ level o → judge_let nv level Γ i x o ≡ ok out → Declared x out
  unfolding judge_let valued ◌>>=◌
  neat_let i x none out ux low V₀ h = absurd (err≢ok h)
  neat_let i x (some t) out ux low V₀ h =
      let z : (update Γ x (live u), none) ≡ out = cc in
      subst (λ (k : Out). Declared x k) z (record {
        neat = record {
          low = λ y v e. elim (at y v e (ℕ_discrete y x)) [ inl q ↦ rw q.0 low | inr q ↦ N.low y v q ];
          deep = λ y v e. elim (at y v e (ℕ_discrete y x)) [ inl q ↦ (let k : level ≡ v.level = ap (λ (w : Variable). w.level) q.1 in omega arith) | inr q ↦ N.deep y v q ];
          holds = λ y v e. holds_in li (elim (at y v e (ℕ_discrete y x)) [ inl q ↦ subst (λ (k : Variable). Holds Γ k.chain k.level k.borrow) q.1 (V₀ t refl) | inr q ↦ N.holds y v q ]);
        };
        no_value = refl;
        other = λ y n. update_other Γ x (live u) y n;
        here = λ v e. ap (λ (w : Variable). w.level) (sym (is_u x v e refl));
      })
    where
      u : Variable
      u = fresh t.links t.borrow level

      li : Lives Γ (update Γ x (live u))
      li y k e = (k, update_other Γ x (live u) y (λ q. used≢live (sym ux ∙ ap Γ (sym q) ∙ e)) ∙ e, refl, refl)

      is_u : (y : ℕ) (v : Variable) → update Γ x (live u) y ≡ live v → y ≡ x → u ≡ v
      is_u y v e q = let f : live u ≡ live v = sym (update_same Γ x (live u)) ∙ ap (λ (k : ℕ). update Γ x (live u) k) (sym q) ∙ e in cc

      at : (y : ℕ) (v : Variable) → update Γ x (live u) y ≡ live v → Dec (y ≡ x) → ((y ≡ x) × (u ≡ v)) ⊎ (Γ y ≡ live v)
      at y v e (yes q) = inl (q, is_u y v e q)
      at y v e (no q) = inr (sym (update_other Γ x (live u) y q) ∙ e)

-- After the inner term of a let, and with its variable in scope.
pub declared_fine : {nv level : ℕ} {Γ Γ₁ : Environment} {o : Option Ty} (x : ℕ) (out : Out) → Γ x ≡ free → (F : Fine nv (update Γ x used) Γ₁ o level) → Declared F.neat x out
    → Fine nv Γ out.0 out.1 level
declared_fine {nv} {level} {Γ} {Γ₁} x out fx F D = record {
  neat = D.neat;
  value = subst (λ (o : Option Ty). NeatValue out.0 level o) (sym D.no_value) (no_value out.0 level);
  old = λ y q e lt.
      let n : y ≢ x = λ k. (let z = D.here q (ap (λ (y : ℕ). out.0 y) (sym k) ∙ e) in omega arith) in
      let b = F.old y q (sym (D.other y n) ∙ e) lt in
      (b.0, sym (update_other Γ x used y n) ∙ b.1, b.2);
  taken = λ y e.
      let n : y ≢ x = λ k. free≢used (sym fx ∙ ap Γ (sym k) ∙ e) in
      D.other y n ∙ F.taken y (update_other Γ x used y n ∙ e);
  lives = λ y k e.
      let n : y ≢ x = λ h. free≢live (sym fx ∙ ap Γ (sym h) ∙ e) in
      let a = F.lives y k (update_other Γ x used y n ∙ e) in
      (a.0, D.other y n ∙ a.1, a.2, a.3);
}
