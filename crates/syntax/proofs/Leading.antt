-- The mark and the version before a script's term, read both ways.
use Prim.Native.Nat.{ℕ, ◌+◌, ◌*◌, ◌/◌, ◌%◌}
use native.Mathlib.Omega.{arith}
use mathlib.Core.Path.{◌≡◌, refl, sym, ap, ◌∙◌, subst}
use mathlib.Core.Bool.{true}
use mathlib.Core.List.{List, [], ◌∷◌}
use lib.Dec.{eqb}
use borrow.Author.Tests.{eqb-true}
use Rattle.syntax.specs.Result.{ok, need}
use Rattle.syntax.specs.Kinds.{knows}
use Rattle.syntax.specs.Layout.{in_bytes}
use Rattle.syntax.specs.Reader.{Cursor, expect, peek, skip, next, mark, version, leading}
use Rattle.syntax.proofs.Answers.{then, after, needed, need_ok, ran, same}
use Rattle.syntax.proofs.HeadSound.{Got, got_both, peek_says, expect_says, skip_says, next_says}
use Rattle.syntax.proofs.Versions.{known_says, small}
use Rattle.syntax.proofs.HeadBack.{Does, seq, stay, peek_does, expect_does, skip_does, next_does}

mark_says : (b : ℕ) (s s' : Cursor) (u : Unit {0}) → mark b s ≡ ok (u, s') → Got s (b ∷ []) s'
unfolding mark
mark_says b s s' u h =
    let a = ran _ _ s _ h in
    let c = ran _ _ a.1 _ a.3 in
    let p = peek_says in_bytes s a.1 a.0 a.2 in
    let j = expect_says in_bytes (λ s. eqb a.0 b) 10 a.1 c.1 c.0 c.2 in
    subst (λ (k : ℕ). Got s (k ∷ []) s') (eqb-true _ _ j.1) (skip_says s s' u a.0 p.1 (ap skip (p.0 ∙ j.0) ∙ c.3))

version_says : (n : ℕ) (s s' : Cursor) (v : ℕ) → version n s ≡ ok (v, s') → Got s (v / 256 ∷ v % 256 ∷ []) s' × (knows n v ≡ true)
unfolding version
version_says n s s' v h =
    let a = ran _ _ s _ h in
    let b = ran _ _ a.1 _ a.3 in
    let q = then (need (knows n (a.0 * 256 + b.0)) (11, 3)) (λ u. ok (a.0 * 256 + b.0, b.1)) (v, s') b.3 in
    let z = same q.2 in
    let k : knows n v ≡ true = ap (knows n) (sym z.0) ∙ needed _ _ q.0 q.1 in
    let m = known_says n v k in
    let e : a.0 * 256 + b.0 ≡ v = z.0 in
    let x : a.0 ≡ v / 256 = (small a.0 b.0 v e m.2).0 in
    let y : b.0 ≡ v % 256 = (small a.0 b.0 v e m.2).1 in
    let g : Got s (a.0 ∷ b.0 ∷ []) b.1 = got_both (next_says in_bytes s a.1 a.0 a.2) (next_says in_bytes a.1 b.1 b.0 b.2) in
    (subst (λ (k : Cursor). Got s (v / 256 ∷ v % 256 ∷ []) k) z.1 (subst (λ (k : ℕ). Got s (v / 256 ∷ k ∷ []) b.1) y (subst (λ (k : ℕ). Got s (k ∷ b.0 ∷ []) b.1) x g)), k)

pub leading_says : (n : ℕ) (s s' : Cursor) (v : ℕ) → leading n s ≡ ok (v, s') → Got s (0x52 ∷ 0x43 ∷ 0x53 ∷ v / 256 ∷ v % 256 ∷ []) s' × (knows n v ≡ true)
unfolding leading
leading_says n s s' v h =
    let a = ran _ _ s _ h in
    let b = ran _ _ a.1 _ a.3 in
    let c = ran _ _ b.1 _ b.3 in
    let d = version_says n c.1 s' v c.3 in
    (got_both (mark_says 0x52 s a.1 a.0 a.2) (got_both (mark_says 0x43 a.1 b.1 b.0 b.2) (got_both (mark_says 0x53 b.1 c.1 c.0 c.2) d.0)), d.1)

mark_does : (b : ℕ) (s : Cursor) (r : List ℕ) → eqb b b ≡ true → s.rest ≡ b ∷ r → Does (mark b) s tt r
unfolding mark
mark_does b s r q e =
    seq (peek in_bytes) _ s b tt (b ∷ r) r (peek_does in_bytes s b r e) (λ s₁ e₁.
    seq (expect in_bytes (λ s. eqb b b) 10) _ s₁ tt tt (b ∷ r) r (expect_does in_bytes (λ s. eqb b b) 10 s₁ (b ∷ r) e₁ q) (λ s₂ e₂. skip_does s₂ b r e₂))

version_does : (n v : ℕ) (s : Cursor) (r : List ℕ) → knows n v ≡ true → s.rest ≡ v / 256 ∷ v % 256 ∷ r → Does (version n) s v r
unfolding version
version_does n v s r k e =
    let a = v / 256 in
    let b = v % 256 in
    let z : v ≡ a * 256 + b = omega arith in
    seq (next in_bytes) _ s a v (b ∷ r) r (next_does in_bytes s a (b ∷ r) e) (λ s₁ e₁.
    seq (next in_bytes) _ s₁ b v r r (next_does in_bytes s₁ b r e₁) (λ s₂ e₂.
    stay _ s₂ v r e₂ (after (need (knows n (a * 256 + b)) (11, 3)) _ tt _ (need_ok _ _ (ap (knows n) (sym z) ∙ k)) (ap (λ (x : ℕ). ok (x, s₂)) (sym z)))))

pub leading_does : (n v : ℕ) (s : Cursor) (r : List ℕ) → knows n v ≡ true → s.rest ≡ 0x52 ∷ 0x43 ∷ 0x53 ∷ v / 256 ∷ v % 256 ∷ r → Does (leading n) s v r
unfolding leading
leading_does n v s r k e =
    seq (mark 0x52) _ s tt v (0x43 ∷ 0x53 ∷ v / 256 ∷ v % 256 ∷ r) r (mark_does 0x52 s _ refl e) (λ s₁ e₁.
    seq (mark 0x43) _ s₁ tt v (0x53 ∷ v / 256 ∷ v % 256 ∷ r) r (mark_does 0x43 s₁ _ refl e₁) (λ s₂ e₂.
    seq (mark 0x53) _ s₂ tt v (v / 256 ∷ v % 256 ∷ r) r (mark_does 0x53 s₂ _ refl e₂) (λ s₃ e₃. version_does n v s₃ r k e₃)))
