-- What the answer of a small reader says: which numbers it took, and that they are in their ranges. Up to the head of a term.
use Prim.Native.Nat.{ℕ, zero, suc, ◌+◌, ◌-◌, ◌*◌, ◌/◌, ◌%◌, ◌≤◌, ◌<◌}
use native.Mathlib.Omega.{arith}
use mathlib.Core.Path.{◌≡◌, refl, sym, ap, ◌∙◌, subst}
use mathlib.Core.Bool.{Bool, true, false, false≢true, not, ◌&&◌, ◌||◌}
use mathlib.Core.Option.{Option, none, some}
use mathlib.Core.List.{List, [], ◌∷◌, ◌++◌, append_assoc}
use lib.ListN.{length, drop, length-append}
use lib.Dec.{leb, ltb}
use borrow.Author.Tests.{leb-true, ltb-true}
use Rattle.syntax.specs.Result.{ok, need, Refusal}
use Rattle.syntax.specs.Limits.{Limits}
use Rattle.syntax.specs.Kinds.{Kind, k_block, byte_of, kind_of, Field, word, until, fields}
use Rattle.syntax.specs.Layout.{Form, in_bytes, in_rows, zeros, word_of, unused, head}
use Rattle.syntax.specs.Reader.{Cursor, done, place_in, expect, first, peek, skip, next, ranged, field, operands, zero_fields, rest_of_row, is, boxes_of, ended, known, kind, opening, counted}
use Rattle.syntax.specs.Within.{InRange, Ranges, Under}
use Rattle.syntax.proofs.Answers.{err_ok, then, needed, ran, same, is_done}
use Rattle.syntax.proofs.KindBytes.{Has, found, found_has, is_same}
use Rattle.syntax.proofs.OperandLaws.{cap, laid, ops, unused_ops}

-- Reading the numbers xs leads from s to s' and meets no term.
pub record Got (s : Cursor) (xs : List ℕ) (s' : Cursor) : Type 0 where
  pub rest : s.rest ≡ xs ++ s'.rest
  pub at : s'.at ≡ s.at + length xs
  pub terms : s'.terms ≡ s.terms
  pub boxes : s'.boxes ≡ s.boxes

got_nothing : {s s' : Cursor} → s ≡ s' → Got s [] s'
got_nothing {s} {s'} e = subst (λ (k : Cursor). Got s [] k) e (record { rest = refl; at = omega arith; terms = refl; boxes = refl })

pub got_both : {s s' s'' : Cursor} {xs ys : List ℕ} → Got s xs s' → Got s' ys s'' → Got s (xs ++ ys) s''
got_both {s} {s'} {s''} {xs} {ys} g h = record {
  rest = g.rest ∙ ap (λ (k : List ℕ). xs ++ k) h.rest ∙ sym (append_assoc xs ys s''.rest);
  at = omega (arith, g.at, h.at, length-append xs ys);
  terms = h.terms ∙ g.terms;
  boxes = h.boxes ∙ g.boxes;
}

under_behind : (n : ℕ) (xs ys : List ℕ) → Under n (xs ++ ys) → Under n ys
under_behind n [] ys u = u
under_behind n (x ∷ xs) ys u = under_behind n xs ys u.1

pub under_got : (n : ℕ) {s s' : Cursor} {xs : List ℕ} → Got s xs s' → Under n s.rest → Under n s'.rest
under_got n {s} {s'} {xs} g u = under_behind n xs s'.rest (subst (λ (k : List ℕ). Under n k) g.rest u)

first_says : (xs : List ℕ) (e : Refusal) (v : ℕ) → first xs e ≡ ok v → xs ≡ v ∷ drop 1 xs
unfolding first
first_says [] e v h = err_ok h
first_says (x ∷ xs) e v h = let z : x ≡ v = cc in ap (λ (k : ℕ). k ∷ xs) z

pub peek_says : (w : Form) (s s' : Cursor) (v : ℕ) → peek w s ≡ ok (v, s') → (s ≡ s') × (s.rest ≡ v ∷ drop 1 s.rest)
unfolding peek
peek_says w s s' v h =
    let q = then (first s.rest (12, place_in w s.at)) (λ x. ok (x, s)) (v, s') h in
    let e = same q.2 in
    (e.1, first_says s.rest _ v (q.1 ∙ ap ok e.0))

pub expect_says : (w : Form) (test : Cursor → Bool) (n : ℕ) (s s' : Cursor) (u : Unit {0}) → expect w test n s ≡ ok (u, s') → (s ≡ s') × (test s ≡ true)
unfolding expect
expect_says w test n s s' u h =
    let q = then (need (test s) (n, place_in w s.at)) (λ u. ok (u, s)) (u, s') h in
    ((same q.2).1, needed (test s) _ q.0 q.1)

pub skip_says : (s s' : Cursor) (u : Unit {0}) (v : ℕ) → s.rest ≡ v ∷ drop 1 s.rest → skip s ≡ ok (u, s') → Got s (v ∷ []) s'
unfolding skip
skip_says s s' u v e h = subst (λ (k : Cursor). Got s (v ∷ []) k) (same h).1 (record { rest = e; at = omega arith; terms = refl; boxes = refl })

-- A look, a step that does not move, and on.
taken : (w : Form) (s s₁ s₂ s₃ s' : Cursor) (u : Unit {0}) (v x : ℕ) → peek w s ≡ ok (v, s₁) → s₁ ≡ s₂ → skip s₂ ≡ ok (u, s₃) → done v s₃ ≡ ok (x, s') → Got s (x ∷ []) s'
taken w s s₁ s₂ s₃ s' u v x p e k d =
    let a = peek_says w s s₁ v p in
    let b = is_done v x s₃ s' d in
    subst (λ (y : ℕ). Got s (y ∷ []) s') b.0
    (subst (λ (y : Cursor). Got s (v ∷ []) y) b.1
    (skip_says s s₃ u v a.1 (ap skip (a.0 ∙ e) ∙ k)))

pub next_says : (w : Form) (s s' : Cursor) (v : ℕ) → next w s ≡ ok (v, s') → Got s (v ∷ []) s'
unfolding next
next_says w s s' v h =
    let a = ran _ _ s _ h in
    let b = ran _ _ a.1 _ a.3 in
    taken w s a.1 a.1 b.1 s' b.0 a.0 v a.2 refl b.2 b.3

pub both : (a b : Bool) → (a && b) ≡ true → (a ≡ true) × (b ≡ true)
both true b h = (refl, h)
both false b h = absurd (false≢true h)

ranged_says : (w : Form) (lo hi : ℕ) (s s' : Cursor) (v : ℕ) → ranged w lo hi s ≡ ok (v, s') → Got s (v ∷ []) s' × InRange (until lo hi) v
unfolding ranged
ranged_says w lo hi s s' v h =
    let a = ran _ _ s _ h in
    let b = ran _ _ a.1 _ a.3 in
    let c = ran _ _ b.1 _ b.3 in
    let j = expect_says w (λ s. leb lo a.0 && ltb a.0 hi) 14 a.1 b.1 b.0 b.2 in
    let t = both _ _ j.1 in (
      taken w s a.1 b.1 c.1 s' c.0 a.0 v a.2 j.0 c.2 c.3,
      subst (λ (k : ℕ). InRange (until lo hi) k) (is_done a.0 v c.1 s' c.3).0 (leb-true _ _ t.0, ltb-true _ _ t.1),
    )

under_first : (n v : ℕ) {s s' : Cursor} → Got s (v ∷ []) s' → Under n s.rest → (v < n) × Under n s'.rest
under_first n v {s} {s'} g u = subst (λ (k : List ℕ). Under n k) g.rest u

-- Four bytes are the bytes of the number that is made of them. This is why the bytes must be below 256.
four_bytes : (a b c d : ℕ) → a < 256 → b < 256 → c < 256 → d < 256
    → (a ∷ b ∷ c ∷ d ∷ [] ≡ word_of in_bytes (a * 16777216 + b * 65536 + c * 256 + d)) × (a * 16777216 + b * 65536 + c * 256 + d < 4294967296)
unfolding word_of
four_bytes a b c d p q r s =
    let n = a * 16777216 + b * 65536 + c * 256 + d in
    let ea : a ≡ n / 16777216 = omega arith in
    let eb : b ≡ n / 65536 % 256 = omega arith in
    let ec : c ≡ n / 256 % 256 = omega arith in
    let ed : d ≡ n % 256 = omega arith in
    (cc, omega arith)

word_says : (s s₁ s₂ s₃ s₄ s' : Cursor) (a b c d v : ℕ) → Under 256 s.rest → Got s (a ∷ []) s₁ → Got s₁ (b ∷ []) s₂ → Got s₂ (c ∷ []) s₃ → Got s₃ (d ∷ []) s₄
    → done (a * 16777216 + b * 65536 + c * 256 + d) s₄ ≡ ok (v, s') → Got s (word_of in_bytes v) s' × (v < 4294967296)
word_says s s₁ s₂ s₃ s₄ s' a b c d v u ga gb gc gd h =
    let ua = under_first 256 a ga u in
    let ub = under_first 256 b gb ua.1 in
    let uc = under_first 256 c gc ub.1 in
    let ud = under_first 256 d gd uc.1 in
    let e = four_bytes a b c d ua.0 ub.0 uc.0 ud.0 in
    let g : Got s (a ∷ b ∷ c ∷ d ∷ []) s₄ = got_both ga (got_both gb (got_both gc gd)) in
    let z = is_done _ v s₄ s' h in
    subst (λ (k : ℕ). Got s (word_of in_bytes k) s' × (k < 4294967296)) z.0
    (subst (λ (k : Cursor). Got s (word_of in_bytes (a * 16777216 + b * 65536 + c * 256 + d)) k) z.1 (subst (λ (k : List ℕ). Got s k s₄) e.0 g), e.1)

field_says : (w : Form) (f : Field) (s s' : Cursor) (v : ℕ) → Under (cap w) s.rest → field w f s ≡ ok (v, s') → Got s (laid w f v) s' × InRange f v
unfolding field laid word_of
field_says in_bytes word s s' v u h =
    let a = ran _ _ s _ h in
    let b = ran _ _ a.1 _ a.3 in
    let c = ran _ _ b.1 _ b.3 in
    let d = ran _ _ c.1 _ c.3 in
    word_says s a.1 b.1 c.1 d.1 s' a.0 b.0 c.0 d.0 v u
    (next_says in_bytes s a.1 a.0 a.2) (next_says in_bytes a.1 b.1 b.0 b.2)
    (next_says in_bytes b.1 c.1 c.0 c.2) (next_says in_bytes c.1 d.1 d.0 d.2) d.3
field_says in_rows word s s' v u h = let g = next_says in_rows s s' v h in (g, (under_first 4294967296 v g u).0)
field_says in_bytes (until a b) s s' v u h = ranged_says in_bytes a b s s' v h
field_says in_rows (until a b) s s' v u h = ranged_says in_rows a b s s' v h

operands_say : (w : Form) (fs : List Field) (s s' : Cursor) (vs : List ℕ) → Under (cap w) s.rest → operands w fs s ≡ ok (vs, s') → Got s (ops w fs vs) s' × Ranges fs vs
unfolding operands ops
operands_say w [] s s' vs u h =
    let z = is_done [] vs s s' h in
    (got_nothing z.1, subst (λ (k : List ℕ). Ranges [] k) z.0 tt)
operands_say w (f ∷ fs) s s' vs u h =
    let a = ran _ _ s _ h in
    let b = ran _ _ a.1 _ a.3 in
    let ga = field_says w f s a.1 a.0 u a.2 in
    let gb = operands_say w fs a.1 b.1 b.0 (under_got (cap w) ga.0 u) b.2 in
    let z = is_done (a.0 ∷ b.0) vs b.1 s' b.3 in
    subst (λ (k : List ℕ). Got s (ops w (f ∷ fs) k) s' × Ranges (f ∷ fs) k) z.0
    (subst (λ (k : Cursor). Got s (laid w f a.0 ++ ops w fs b.0) k) z.1 (got_both ga.0 gb.0), (ga.1, gb.1))

zero_fields_say : (n : ℕ) (s s' : Cursor) (u : Unit {0}) → zero_fields n s ≡ ok (u, s') → Got s (zeros n) s'
unfolding zero_fields zeros
zero_fields_say zero s s' u h = got_nothing (is_done tt u s s' h).1
zero_fields_say (suc n) s s' u h =
    let a = ran _ _ s _ h in
    let q = ranged_says in_rows 0 1 s a.1 a.0 a.2 in
    let e : a.0 ≡ 0 = omega (arith, q.1) in
    got_both (subst (λ (k : ℕ). Got s (k ∷ []) a.1) e q.0) (zero_fields_say n a.1 s' u a.3)

rest_of_row_says : (w : Form) (n : ℕ) (s s' : Cursor) (u : Unit {0}) → rest_of_row w n s ≡ ok (u, s') → Got s (unused w n) s'
unfolding rest_of_row unused
rest_of_row_says in_bytes n s s' u h = got_nothing (is_done tt u s s' h).1
rest_of_row_says in_rows n s s' u h = zero_fields_say (4 - n) s s' u h

-- The kind is known, and may stand here.
known_says : (o : Option Kind) (e : Refusal) (k : Kind) → known o e ≡ ok k → o ≡ some k
unfolding known
known_says none e k h = err_ok h
known_says (some j) e k h = ap some (cc)

kind_says : (v : ℕ) (w : Form) (b : ℕ) (s s' : Cursor) (k : Kind) → kind v w b s ≡ ok (k, s') → (s ≡ s') × (kind_of v b ≡ some k)
unfolding kind
kind_says v w b s s' k h =
    let q = then (known (kind_of v b) (13, place_in w s.at)) (λ k. ok (k, s)) (k, s') h in
    let e = same q.2 in
    (e.1, known_says (kind_of v b) _ q.0 q.1 ∙ ap some e.0)

outer_says : (a b : Bool) → (not a || b) ≡ true → a ≡ true → b ≡ true
outer_says true b h e = h
outer_says false b h e = absurd (false≢true e)

pub record Opens (l : Limits) (v : ℕ) (outer : Bool) (s : Cursor) (k : Kind) : Type 0 where
  pub rest : s.rest ≡ byte_of k ∷ drop 1 s.rest
  pub has : Has v k
  pub block : outer ≡ true → k ≡ k_block
  pub room : s.terms < l.terms

pub opening_says : (l : Limits) (v : ℕ) (w : Form) (outer : Bool) (s s' : Cursor) (k : Kind) → opening l v w outer s ≡ ok (k, s') → (s ≡ s') × Opens l v outer s k
unfolding opening
opening_says l v w outer s s' k h =
    let a = ran _ _ s _ h in
    let b = ran _ _ a.1 _ a.3 in
    let c = ran _ _ b.1 _ b.3 in
    let d = ran _ _ c.1 _ c.3 in
    let e = ran _ _ d.1 _ d.3 in
    let ja = peek_says w s a.1 a.0 a.2 in
    let jb = expect_says w (λ s. not (ended w a.0)) 12 a.1 b.1 b.0 b.2 in
    let jc = kind_says v w a.0 b.1 c.1 c.0 c.2 in
    let jd = expect_says w (λ s. not outer || is c.0 k_block) 18 c.1 d.1 d.0 d.2 in
    let je = expect_says w (λ s. ltb s.terms l.terms) 16 d.1 e.1 e.0 e.2 in
    let jf = is_done c.0 k e.1 s' e.3 in
    let z : s ≡ d.1 = ja.0 ∙ jb.0 ∙ jc.0 ∙ jd.0 in (
      z ∙ je.0 ∙ jf.1,
      subst (λ (x : Kind). Opens l v outer s x) jf.0 (record {
        rest = ja.1 ∙ ap (λ (x : ℕ). x ∷ drop 1 s.rest) (sym (found v a.0 c.0 jc.1));
        has = found_has v a.0 c.0 jc.1;
        block = λ o. is_same c.0 k_block (outer_says outer _ jd.1 o);
        room = subst (λ (x : Cursor). x.terms < l.terms) (sym z) (ltb-true _ _ je.1);
      }),
    )

counted_says : (k : Kind) (s s' : Cursor) (i : ℕ) → counted k s ≡ ok (i, s')
    → (s.terms ≡ i) × (s.rest ≡ s'.rest) × (s'.at ≡ s.at) × (s'.terms ≡ suc s.terms) × (s'.boxes ≡ s.boxes + boxes_of k)
unfolding counted
counted_says k s s' i h =
    let z = same h in
    (z.0, ap (λ (x : Cursor). x.rest) z.1, sym (ap (λ (x : Cursor). x.at) z.1), sym (ap (λ (x : Cursor). x.terms) z.1), sym (ap (λ (x : Cursor). x.boxes) z.1))

-- A term's head is read: kind, operands, unused fields.
pub record Opened (l : Limits) (v : ℕ) (w : Form) (outer : Bool) (s : Cursor) (k : Kind) (vs : List ℕ) (s' : Cursor) : Type 0 where
  pub rest : s.rest ≡ head w k (ops w (fields l k) vs) ++ s'.rest
  pub at : s'.at ≡ s.at + length (head w k (ops w (fields l k) vs))
  pub terms : s'.terms ≡ suc s.terms
  pub boxes : s'.boxes ≡ s.boxes + boxes_of k
  pub fits : s'.terms ≤ l.terms
  pub few : s'.boxes ≤ l.boxes
  pub ranges : Ranges (fields l k) vs
  pub has : Has v k
  pub block : outer ≡ true → k ≡ k_block
  pub under : Under (cap w) s'.rest

pub head_says : (l : Limits) (v : ℕ) (w : Form) (outer : Bool) (k : Kind) (s s₁ s₂ s₃ s₄ s₅ : Cursor) (u u' u'' : Unit {0}) (i : ℕ) (vs : List ℕ) → Under (cap w) s.rest → Opens l v outer s k
    → expect w (λ s. leb (s.boxes + boxes_of k) l.boxes) 17 s ≡ ok (u, s₁) → counted k s₁ ≡ ok (i, s₂) → skip s₂ ≡ ok (u', s₃)
    → operands w (fields l k) s₃ ≡ ok (vs, s₄) → rest_of_row w (length vs) s₄ ≡ ok (u'', s₅) → (s.terms ≡ i) × Opened l v w outer s k vs s₅
unfolding head
head_says l v w outer k s s₁ s₂ s₃ s₄ s₅ u u' u'' i vs n o h₁ h₂ h₃ h₄ h₅ =
    let xs = ops w (fields l k) vs in
    let j = expect_says w (λ s. leb (s.boxes + boxes_of k) l.boxes) 17 s s₁ u h₁ in
    let c = counted_says k s s₂ i (ap (counted k) j.0 ∙ h₂) in
    let r₂ : s₂.rest ≡ byte_of k ∷ drop 1 s₂.rest = subst (λ (x : List ℕ). x ≡ byte_of k ∷ drop 1 x) c.1 o.rest in
    let g₃ = skip_says s₂ s₃ u' (byte_of k) r₂ h₃ in
    let n₂ : Under (cap w) s₂.rest = subst (λ (x : List ℕ). Under (cap w) x) c.1 n in
    let n₃ = under_got (cap w) {s = s₂} {s' = s₃} g₃ n₂ in
    let q = operands_say w (fields l k) s₃ s₄ vs n₃ h₄ in
    let g₅ : Got s₄ (unused w (length xs)) s₅ = subst (λ (x : List ℕ). Got s₄ x s₅) (unused_ops w (fields l k) vs q.1) (rest_of_row_says w (length vs) s₄ s₅ u'' h₅) in
    let g : Got s₂ (head w k xs) s₅ = got_both {s = s₂} {s' = s₃} g₃ (got_both {s = s₃} {s' = s₄} q.0 g₅) in
    let b : s.boxes + boxes_of k ≤ l.boxes = leb-true _ _ j.1 in
    let t : s.terms < l.terms = o.room in (
      c.0,
      record {
        rest = c.1 ∙ g.rest;
        at = g.at ∙ ap (λ (x : ℕ). x + length (head w k xs)) c.2;
        terms = g.terms ∙ c.3;
        boxes = g.boxes ∙ c.4;
        fits = omega (arith, g.terms, c.3);
        few = omega (arith, g.boxes, c.4);
        ranges = q.1;
        has = o.has;
        block = o.block;
        under = under_got (cap w) {s = s₂} {s' = s₅} g n₂;
      },
    )
