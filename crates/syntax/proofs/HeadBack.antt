-- The small readers take what is written: numbers in their ranges are read, and the head of a term.
use Prim.Native.Nat.{ℕ, zero, suc, ◌+◌, ◌-◌, ◌*◌, ◌/◌, ◌%◌, ◌≤◌, ◌<◌}
use native.Mathlib.Omega.{arith}
use mathlib.Core.Path.{◌≡◌, refl, sym, ap, ◌∙◌, subst}
use mathlib.Core.Bool.{Bool, true, false, not, ◌&&◌, ◌||◌}
use mathlib.Core.List.{List, [], ◌∷◌, ◌++◌, append_assoc}
use lib.ListN.{length, drop}
use lib.Dec.{leb, ltb}
use borrow.Author.Tests.{le-leb, lt-ltb}
use Rattle.syntax.specs.Result.{ok}
use Rattle.syntax.specs.Limits.{Limits}
use Rattle.syntax.specs.Kinds.{Kind, k_block, byte_of, Field, word, until, fields}
use Rattle.syntax.specs.Layout.{Form, in_bytes, in_rows, zeros, word_of, unused, head}
use Rattle.syntax.specs.Reader.{Cursor, Reads, ◌>>=◌, done, expect, peek, skip, next, ranged, field, operands, zero_fields, rest_of_row, is, boxes_of, built, term}
use Rattle.syntax.specs.Within.{InRange, Ranges}
use Rattle.syntax.proofs.Answers.{go_on}
use Rattle.syntax.proofs.KindBytes.{Has}
use Rattle.syntax.proofs.OperandLaws.{laid, ops, unused_ops}
use Rattle.syntax.proofs.TermSteps.{peek_ok, expect_ok, opening_ok, past, term_built}

-- The reader answers a and leaves r, and has met n terms with b boxes.
pub record Yields {A : Type 0} (m : Reads A) (s : Cursor) (a : A) (r : List ℕ) (n b : ℕ) : Type 0 where
  pub to : Cursor
  pub eq : m s ≡ ok (a, to)
  pub rest : to.rest ≡ r
  pub terms : to.terms ≡ s.terms + n
  pub boxes : to.boxes ≡ s.boxes + b

-- A small reader meets no term.
abbrev pub Does : {A : Type 0} → Reads A → Cursor → A → List ℕ → Type 0
Does m s a r = Yields m s a r 0 0

-- One small reader after another.
pub seq : {A B : Type 0} (m : Reads A) (f : A → Reads B) (s : Cursor) (a : A) (b : B) (q r : List ℕ) → Does m s a q → ((s₁ : Cursor) → s₁.rest ≡ q → Does (f a) s₁ b r) → Does (m >>= f) s b r
seq m f s a b q r x y =
    let z = y x.to x.rest in
    record { to = z.to; eq = go_on m f s x.to a (ok (b, z.to)) x.eq z.eq; rest = z.rest; terms = omega (arith, z.terms, x.terms); boxes = omega (arith, z.boxes, x.boxes) }

pub stay : {A : Type 0} (m : Reads A) (s : Cursor) (a : A) (r : List ℕ) → s.rest ≡ r → m s ≡ ok (a, s) → Does m s a r
stay m s a r e h = record { to = s; eq = h; rest = e; terms = omega arith; boxes = omega arith }

done_does : {A : Type 0} (s : Cursor) (a : A) (r : List ℕ) → s.rest ≡ r → Does (done a) s a r
unfolding done
done_does s a r e = stay (done a) s a r e refl

pub peek_does : (w : Form) (s : Cursor) (v : ℕ) (r : List ℕ) → s.rest ≡ v ∷ r → Does (peek w) s v (v ∷ r)
peek_does w s v r e = stay (peek w) s v (v ∷ r) e (peek_ok w s v r e)

pub expect_does : (w : Form) (test : Cursor → Bool) (n : ℕ) (s : Cursor) (r : List ℕ) → s.rest ≡ r → test s ≡ true → Does (expect w test n) s tt r
expect_does w test n s r e h = stay (expect w test n) s tt r e (expect_ok w test n s h)

pub skip_does : (s : Cursor) (v : ℕ) (r : List ℕ) → s.rest ≡ v ∷ r → Does skip s tt r
unfolding skip
skip_does s v r e = record { to = record { rest = drop 1 s.rest; at = suc s.at; terms = s.terms; boxes = s.boxes }; eq = refl; rest = ap (drop 1) e; terms = omega arith; boxes = omega arith }

pub next_does : (w : Form) (s : Cursor) (v : ℕ) (r : List ℕ) → s.rest ≡ v ∷ r → Does (next w) s v r
unfolding next
next_does w s v r e =
    seq (peek w) _ s v v (v ∷ r) r (peek_does w s v r e) (λ s₁ e₁.
    seq skip _ s₁ tt v r r (skip_does s₁ v r e₁) (λ s₂ e₂. done_does s₂ v r e₂))

ranged_does : (w : Form) (lo hi : ℕ) (s : Cursor) (v : ℕ) (r : List ℕ) → InRange (until lo hi) v → s.rest ≡ v ∷ r → Does (ranged w lo hi) s v r
unfolding ranged
ranged_does w lo hi s v r p e =
    seq (peek w) _ s v v (v ∷ r) r (peek_does w s v r e) (λ s₁ e₁.
    seq (expect w (λ s. leb lo v && ltb v hi) 14) _ s₁ tt v (v ∷ r) r (expect_does w (λ s. leb lo v && ltb v hi) 14 s₁ (v ∷ r) e₁ (rw (le-leb lo v p.0) (lt-ltb v hi p.1))) (λ s₂ e₂.
    seq skip _ s₂ tt v r r (skip_does s₂ v r e₂) (λ s₃ e₃. done_does s₃ v r e₃)))

field_does : (w : Form) (f : Field) (s : Cursor) (v : ℕ) (r : List ℕ) → InRange f v → s.rest ≡ laid w f v ++ r → Does (field w f) s v r
unfolding field laid word_of
field_does in_bytes word s v r p e =
    let a = v / 16777216 in
    let b = v / 65536 % 256 in
    let c = v / 256 % 256 in
    let d = v % 256 in
    let z : a * 16777216 + b * 65536 + c * 256 + d ≡ v = omega arith in
    seq (next in_bytes) _ s a v (b ∷ c ∷ d ∷ r) r (next_does in_bytes s a (b ∷ c ∷ d ∷ r) e) (λ s₁ e₁.
    seq (next in_bytes) _ s₁ b v (c ∷ d ∷ r) r (next_does in_bytes s₁ b (c ∷ d ∷ r) e₁) (λ s₂ e₂.
    seq (next in_bytes) _ s₂ c v (d ∷ r) r (next_does in_bytes s₂ c (d ∷ r) e₂) (λ s₃ e₃.
    seq (next in_bytes) _ s₃ d v r r (next_does in_bytes s₃ d r e₃) (λ s₄ e₄.
    subst (λ (x : ℕ). Does (done (a * 16777216 + b * 65536 + c * 256 + d)) s₄ x r) z (done_does s₄ _ r e₄)))))
field_does in_rows word s v r p e = next_does in_rows s v r e
field_does in_bytes (until a b) s v r p e = ranged_does in_bytes a b s v r p e
field_does in_rows (until a b) s v r p e = ranged_does in_rows a b s v r p e

operands_do : (w : Form) (fs : List Field) (s : Cursor) (vs r : List ℕ) → Ranges fs vs → s.rest ≡ ops w fs vs ++ r → Does (operands w fs) s vs r
unfolding operands ops
operands_do w [] s [] r p e = done_does s [] r e
operands_do w [] s (v ∷ vs) r p e = absurd p
operands_do w (f ∷ fs) s [] r p e = absurd p
operands_do w (f ∷ fs) s (v ∷ vs) r p e =
    seq (field w f) _ s v (v ∷ vs) (ops w fs vs ++ r) r (field_does w f s v (ops w fs vs ++ r) p.0 (e ∙ append_assoc (laid w f v) (ops w fs vs) r)) (λ s₁ e₁.
    seq (operands w fs) _ s₁ vs (v ∷ vs) r r (operands_do w fs s₁ vs r p.1 e₁) (λ s₂ e₂. done_does s₂ (v ∷ vs) r e₂))

zero_fields_do : (n : ℕ) (s : Cursor) (r : List ℕ) → s.rest ≡ zeros n ++ r → Does (zero_fields n) s tt r
unfolding zero_fields zeros
zero_fields_do zero s r e = done_does s tt r e
zero_fields_do (suc n) s r e =
    seq (ranged in_rows 0 1) _ s 0 tt (zeros n ++ r) r (ranged_does in_rows 0 1 s 0 (zeros n ++ r) (omega arith) e) (λ s₁ e₁. zero_fields_do n s₁ r e₁)

rest_of_row_does : (w : Form) (n : ℕ) (s : Cursor) (r : List ℕ) → s.rest ≡ unused w n ++ r → Does (rest_of_row w n) s tt r
unfolding rest_of_row unused
rest_of_row_does in_bytes n s r e = done_does s tt r e
rest_of_row_does in_rows n s r e = zero_fields_do (4 - n) s r e

may_open : (outer : Bool) (k : Kind) → (outer ≡ true → k ≡ k_block) → (not outer || is k k_block) ≡ true
unfolding is byte_of
may_open true k h = ap (λ (j : Kind). is j k_block) (h refl)
may_open false k h = refl

-- A term's head is read, and what is built of it comes next.
pub record Heads (l : Limits) (v : ℕ) (w : Form) (e : ℕ) (outer : Bool) (s : Cursor) (k : Kind) (vs r : List ℕ) : Type 0 where
  pub to : Cursor
  pub eq : term l v w (suc e) outer s ≡ built k s.terms vs (term l v w e) to
  pub rest : to.rest ≡ r
  pub terms : to.terms ≡ suc s.terms
  pub boxes : to.boxes ≡ s.boxes + boxes_of k

pub heads : (l : Limits) (v : ℕ) (w : Form) (e : ℕ) (outer : Bool) (s : Cursor) (k : Kind) (vs r : List ℕ) → Has v k → (outer ≡ true → k ≡ k_block) → Ranges (fields l k) vs
    → s.terms < l.terms → s.boxes + boxes_of k ≤ l.boxes → s.rest ≡ head w k (ops w (fields l k) vs) ++ r → Heads l v w e outer s k vs r
unfolding head
heads l v w e outer s k vs r has o q t b h =
    let xs = ops w (fields l k) vs in
    let h₀ : s.rest ≡ byte_of k ∷ (xs ++ (unused w (length vs) ++ r)) =
    h ∙ ap (λ (x : List ℕ). byte_of k ∷ (xs ++ x ++ r)) (sym (unused_ops w (fields l k) vs q)) ∙ ap (λ (x : List ℕ). byte_of k ∷ x) (append_assoc xs (unused w (length vs)) r) in
    let c = operands_do w (fields l k) (past k s) vs _ q (ap (drop 1) h₀) in
    let d = rest_of_row_does w (length vs) c.to r c.rest in
    let op = opening_ok l v w outer s (byte_of k) _ h₀ k has (may_open outer k o) (lt-ltb _ _ t) in
    record {
      to = d.to;
      eq = term_built l v w outer s k op e (le-leb _ _ b) vs c.to c.eq d.to d.eq;
      rest = d.rest;
      terms = omega (arith, d.terms, c.terms);
      boxes = omega (arith, d.boxes, c.boxes);
    }
