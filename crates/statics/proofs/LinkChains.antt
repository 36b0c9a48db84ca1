-- Chains of links: what is behind the borrow link, and parts of them.
use Prim.Native.Nat.{ℕ, zero, suc, ◌+◌, ◌≤◌, ◌<◌}
use native.Mathlib.Omega.{arith}
use native.Mathlib.Nat.{zero-add, suc-add}
use mathlib.Core.Path.{◌≡◌, refl, sym, ap, ap₂, ◌∙◌, subst}
use mathlib.Core.Bool.{Bool, true, false, false≢true}
use mathlib.Core.Option.{Option, none, some}
use mathlib.Core.List.{List, [], ◌∷◌}
use lib.ListN.{take, drop}
use Rattle.syntax.specs.Result.{pick}
use Rattle.syntax.specs.Script.{Place}
use Rattle.statics.specs.Links.{Link, boxed, shared, exclusive, leading_boxes, last_shared_with, last_shared, same_link, same_links}
use Rattle.statics.specs.Environment.{borrow_end}
use Rattle.statics.specs.Neat.{behind}
use Rattle.statics.proofs.Answers.{none≢some}

pub drop_add : {A : Type 0} (a b : ℕ) (l : List A) → drop (a + b) l ≡ drop b (drop a l)
drop_add zero b l = ap (λ (k : ℕ). drop k l) (zero-add b)
drop_add (suc a) zero [] = ap (λ (k : ℕ). drop k []) (suc-add a 0)
drop_add (suc a) (suc b) [] = ap (λ (k : ℕ). drop k []) (suc-add a (suc b))
drop_add {A} (suc a) b (x ∷ l) = ap (λ (k : ℕ). drop {A = A} k (x ∷ l)) (suc-add a b) ∙ drop_add a b l

pub boxes_drop : (d : ℕ) (ks : List Link) → d ≤ leading_boxes ks → d + leading_boxes (drop d ks) ≡ leading_boxes ks
unfolding leading_boxes
boxes_drop zero ks h = omega arith
boxes_drop (suc d) [] h = absurd (omega arith)
boxes_drop (suc d) (boxed ∷ ks) h = let z = boxes_drop d ks (omega arith) in omega arith
boxes_drop (suc d) (shared ∷ ks) h = absurd (omega arith)
boxes_drop (suc d) (exclusive ∷ ks) h = absurd (omega arith)

-- A chain and its rest after some of its leading boxes have the same borrow end, and the same links behind it.
pub same_behind : (d : ℕ) (ks : List Link) → d ≤ leading_boxes ks → behind (drop d ks) ≡ behind ks
same_behind d ks h =
    let z = boxes_drop d ks h in
    let y : suc (leading_boxes ks) ≡ d + suc (leading_boxes (drop d ks)) = omega arith in
    sym (drop_add d (suc (leading_boxes (drop d ks))) ks) ∙ ap (λ (k : ℕ). drop k ks) (sym y)

pub same_end : (d : ℕ) (ks : List Link) (ps : List Place) → d ≤ leading_boxes ks → borrow_end (drop d ks) ps ≡ borrow_end ks ps
unfolding leading_boxes borrow_end
same_end zero ks ps h = refl
same_end (suc d) [] ps h = refl
same_end (suc d) (boxed ∷ ks) ps h = same_end d ks ps (omega arith)
same_end (suc d) (shared ∷ ks) ps h = absurd (omega arith)
same_end (suc d) (exclusive ∷ ks) ps h = absurd (omega arith)

same_link_law : (k j : Link) → same_link k j ≡ true → k ≡ j
unfolding same_link
same_link_law boxed boxed h = refl
same_link_law boxed shared h = absurd (false≢true h)
same_link_law boxed exclusive h = absurd (false≢true h)
same_link_law shared boxed h = absurd (false≢true h)
same_link_law shared shared h = refl
same_link_law shared exclusive h = absurd (false≢true h)
same_link_law exclusive boxed h = absurd (false≢true h)
same_link_law exclusive shared h = absurd (false≢true h)
same_link_law exclusive exclusive h = refl

pub same_links_law : (ks js : List Link) → same_links ks js ≡ true → ks ≡ js
unfolding same_links
same_links_law [] [] h = refl
same_links_law [] (j ∷ js) h = absurd (false≢true h)
same_links_law (k ∷ ks) [] h = absurd (false≢true h)
same_links_law (k ∷ ks) (j ∷ js) h = go (λ g. same_links_law ks js g) (same_link k j) refl h
  where
    go : (same_links ks js ≡ true → ks ≡ js) → (b : Bool) → same_link k j ≡ b → pick b (same_links ks js) false ≡ true → k ∷ ks ≡ j ∷ js
    go ih true e g = ap₂ ◌∷◌ (same_link_law k j e) (ih g)
    go ih false e g = absurd (false≢true g)

-- The last shared link among the first r.
pub last_at : (r : ℕ) (ks : List Link) (j : ℕ) → last_shared (take r ks) ≡ some j → (j < r) × (drop j ks ≡ shared ∷ drop (suc j) ks)
unfolding last_shared last_shared_with
last_at zero ks j e = absurd (none≢some e)
last_at (suc r) [] j e = absurd (none≢some e)
last_at (suc r) (k ∷ ks) j e = go (λ i h. last_at r ks i h) k (last_shared (take r ks)) refl e
  where
    go : ((i : ℕ) → last_shared (take r ks) ≡ some i → (i < r) × (drop i ks ≡ shared ∷ drop (suc i) ks)) → (k : Link) (m : Option ℕ)
        → last_shared (take r ks) ≡ m → last_shared_with k m ≡ some j → (j < suc r) × (drop j (k ∷ ks) ≡ shared ∷ drop j ks)
    go ih k (some i) f h =
        let z : suc i ≡ j = cc in
        let R = ih i f in
        subst (λ (y : ℕ). (y < suc r) × (drop y (k ∷ ks) ≡ shared ∷ drop y ks)) z (omega (arith, R.0), R.1)
    go ih boxed none f h = absurd (none≢some h)
    go ih shared none f h = let z : 0 ≡ j = cc in subst (λ (y : ℕ). (y < suc r) × (drop y (shared ∷ ks) ≡ shared ∷ drop y ks)) z (omega arith, refl)
    go ih exclusive none f h = absurd (none≢some h)
