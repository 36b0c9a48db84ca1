-- Reading and writing are inverse: what is read is within the limits and is written back as it was, and a script within the limits is read back from its bytes and from its rows.
use Prim.Native.Nat.{ℕ, zero, suc, ◌+◌, ◌-◌, ◌/◌, ◌%◌, ◌≤◌}
use native.Mathlib.Omega.{arith}
use mathlib.Core.Path.{◌≡◌, refl, sym, ap, ◌∙◌, subst}
use mathlib.Core.Bool.{true}
use mathlib.Core.List.{List, [], ◌∷◌, ◌++◌, append-nil}
use lib.ListN.{length, length-append}
use lib.Dec.{eqb}
use borrow.Author.Tests.{eqb-true}
use Rattle.syntax.specs.Result.{ok, need, ◌>>=◌ as ◌&◌}
use Rattle.syntax.specs.Limits.{Limits, row_numbers}
use Rattle.syntax.specs.Kinds.{newest, knows}
use Rattle.syntax.specs.Script.{Term, Whole}
use Rattle.syntax.specs.Layout.{Form, in_bytes, in_rows, zeros, lay, bytes_of, rows_of}
use Rattle.syntax.specs.Reader.{Cursor, Reads, done, term, nothing_left, over, script, leading, whole_script, start, answer, parse, decode_in, decode}
use Rattle.syntax.specs.Measures.{version_in}
use Rattle.syntax.specs.Within.{Formed, Within, Allowed, Under}
use Rattle.syntax.proofs.Answers.{err_ok, then, after, needed, ran, go_on, is_done}
use Rattle.syntax.proofs.OperandLaws.{cap}
use Rattle.syntax.proofs.HeadSound.{Got, under_got}
use Rattle.syntax.proofs.Sound.{sound}
use Rattle.syntax.proofs.Back.{back}
use Rattle.syntax.proofs.Versions.{known_says, known_does, version_most}
use Rattle.syntax.proofs.Leading.{leading_says, leading_does}
pub use Rattle.syntax.proofs.Lengths.{laid_bytes, laid_rows, all_laid_bytes, all_laid_rows, byte_length_law, byte_bound, byte_most, rows_length}

-- Nothing is left, or zeros.
left_rows : (k : ℕ) (xs : List ℕ) (u : Unit {0}) → nothing_left in_rows k xs ≡ ok u → xs ≡ zeros (length xs)
unfolding nothing_left zeros
left_rows k [] u h = refl
left_rows k (x ∷ xs) u h =
    let q = then (need (eqb x 0) (19, k / 5)) (λ u. nothing_left in_rows (suc k) xs) u h in
    let e : x ≡ 0 = eqb-true x 0 (needed (eqb x 0) _ q.0 q.1) in
    ap (λ (y : ℕ). y ∷ xs) e ∙ ap (λ (y : List ℕ). 0 ∷ y) (left_rows (suc k) xs u q.2)

left_bytes : (k : ℕ) (xs : List ℕ) (u : Unit {0}) → nothing_left in_bytes k xs ≡ ok u → xs ≡ []
unfolding nothing_left
left_bytes k [] u h = refl
left_bytes k (x ∷ xs) u h = err_ok h

blank : (n k : ℕ) → nothing_left in_rows k (zeros n) ≡ ok tt
unfolding nothing_left zeros ◌&◌ need
blank zero k = refl
blank (suc n) k = blank n (suc k)

-- A whole script, from a cursor that has met no term.
script_says : (l : Limits) (v : ℕ) (w : Form) (s s'' : Cursor) (t : Term) → Under (cap w) s.rest → s.terms ≡ 0 → s.boxes ≡ 0 → script l v w s ≡ ok (t, s'')
    → Within l t × (s' : Cursor) × (u : Unit {0}) × (s.rest ≡ lay w t ++ s'.rest) × (nothing_left w s'.at s'.rest ≡ ok u) × (version_in t ≤ v)
unfolding script over
script_says l v w s s'' t n a b h =
    let q = ran _ _ s _ h in
    let r = ran _ _ q.1 _ q.3 in
    let x = then (nothing_left w q.1.at q.1.rest) (λ u. ok (u, q.1)) (r.0, r.1) r.2 in
    let z = is_done q.0 t r.1 s'' r.3 in
    let o = sound l v w l.levels true s q.1 t n (q.2 ∙ ap (λ (x : Term). ok (x, q.1)) z.0) in (
      record { levels = o.0.deep; terms = omega (arith, o.0.terms, o.0.fits); boxes = omega (arith, o.0.boxes, o.0.few); formed = subst (λ (i : ℕ). Formed l i t) a o.0.formed; outermost = o.1 refl },
      q.1,
      x.0,
      o.0.rest,
      x.1,
      o.0.kinds,
    )

script_does : (l : Limits) (v : ℕ) (w : Form) (s : Cursor) (t : Term) (r : List ℕ) → Within l t → version_in t ≤ v → s.terms ≡ 0 → s.boxes ≡ 0 → s.rest ≡ lay w t ++ r → ((k : ℕ) → nothing_left w k r ≡ ok tt)
    → (s' : Cursor) × (script l v w s ≡ ok (t, s'))
unfolding script over done
script_does l v w s t r i g a b h e =
    let z = back l v w t l.levels true s r (subst (λ (k : ℕ). Formed l k t) (sym a) i.formed) i.levels (omega (arith, i.terms)) (omega (arith, i.boxes)) g (λ x. i.outermost) h in (
      z.to,
      go_on (term l v w l.levels true) _ s z.to t _ z.eq
          (go_on (over w) _ z.to z.to tt _ (after (nothing_left w z.to.at z.to.rest) _ tt _ (ap (nothing_left w z.to.at) z.rest ∙ e z.to.at) refl) refl),
    )

answered : {A : Type 0} (m : Reads A) (xs : List ℕ) (a : A) → answer m xs ≡ ok a → (s : Cursor) × (m (start xs) ≡ ok (a, s))
unfolding answer
answered {A} m xs a h =
    let q = then (m (start xs)) (λ r. ok r.0) a h in
    let z : q.0.0 ≡ a = cc q.2 in
    (q.0.1, q.1 ∙ ap (λ (x : A). ok (x, q.0.1)) z)

answers : {A : Type 0} (m : Reads A) (xs : List ℕ) (a : A) (s : Cursor) → m (start xs) ≡ ok (a, s) → answer m xs ≡ ok a
unfolding answer
answers m xs a s h = after (m (start xs)) (λ r. ok r.0) (a, s) (ok a) h refl

-- Bytes.
behind_leading : (l : Limits) (n v : ℕ) (bs : List ℕ) (s s'' : Cursor) (t : Term) → Under 256 bs → Got (start bs) (0x52 ∷ 0x43 ∷ 0x53 ∷ v / 256 ∷ v % 256 ∷ []) s → knows n v ≡ true
    → script l v in_bytes s ≡ ok (t, s'') → (bytes_of (record { version = v; term = t }) ≡ bs) × Allowed l (record { version = v; term = t }) × (v ≤ n)
unfolding bytes_of
behind_leading l n v bs s s'' t u g k h =
    let q = script_says l v in_bytes s s'' t (under_got 256 g u) g.terms g.boxes h in
    let e : q.1.rest ≡ [] = left_bytes q.1.at q.1.rest q.2 q.4 in
    let y : s.rest ≡ lay in_bytes t = q.3 ∙ ap (λ (x : List ℕ). lay in_bytes t ++ x) e ∙ append-nil (lay in_bytes t) in
    let m = known_says n v k in
    (sym (g.rest ∙ ap (λ (x : List ℕ). 0x52 ∷ 0x43 ∷ 0x53 ∷ v / 256 ∷ v % 256 ∷ x) y), record { version = (m.0, m.2); kinds = q.5; term = q.0 }, m.1)

pub parsed : (l : Limits) (n : ℕ) (bs : List ℕ) (s : Whole) → Under 256 bs → parse l n bs ≡ ok s → (bytes_of s ≡ bs) × Allowed l s × (s.version ≤ n)
unfolding parse whole_script
parsed l n bs s u h =
    let z = answered _ bs s h in
    let a = ran (leading n) _ (start bs) _ z.1 in
    let b = ran (script l a.0 in_bytes) _ a.1 _ a.3 in
    let d = is_done _ s b.1 z.0 b.3 in
    let g = leading_says n (start bs) a.1 a.0 a.2 in
    subst (λ (x : Whole). (bytes_of x ≡ bs) × Allowed l x × (x.version ≤ n)) d.0 (behind_leading l n a.0 bs a.1 b.1 b.0 u g.0 g.1 b.2)

pub parses : (l : Limits) (n : ℕ) (s : Whole) → Allowed l s → s.version ≤ n → parse l n (bytes_of s) ≡ ok s
unfolding parse whole_script bytes_of nothing_left done
parses l n s i m =
    let t = s.term in
    let a = leading_does n s.version (start (bytes_of s)) (lay in_bytes t) (known_does n s.version i.version.0 m i.version.1) refl in
    let b = script_does l s.version in_bytes a.to t [] i.term i.kinds a.terms a.boxes (a.rest ∙ sym (append-nil (lay in_bytes t))) (λ k. refl) in
    answers _ (bytes_of s) s b.0 (go_on (leading n) _ (start (bytes_of s)) a.to s.version _ a.eq (go_on (script l s.version in_bytes) _ a.to b.0 t _ b.1 refl))

-- Rows, with the kinds of version v.
pub decoded_in : (l : Limits) (v : ℕ) (rs : List ℕ) (t : Term) → Under 4294967296 rs → length rs ≡ row_numbers l → decode_in l v rs ≡ ok t → (rs ≡ rows_of l t) × Within l t × (version_in t ≤ v)
unfolding decode_in rows_of
decoded_in l v rs t n e h =
    let y = answered (script l v in_rows) rs t h in
    let q = script_says l v in_rows (start rs) y.0 t n refl refl y.1 in
    let z = left_rows q.1.at q.1.rest q.2 q.4 in
    let a : length rs ≡ length (lay in_rows t) + length q.1.rest = ap length q.3 ∙ length-append (lay in_rows t) q.1.rest in
    let b : length q.1.rest ≡ row_numbers l - length (lay in_rows t) = omega arith in
    (q.3 ∙ ap (λ (x : List ℕ). lay in_rows t ++ x) (z ∙ ap zeros b), q.0, q.5)

pub decodes_in : (l : Limits) (v : ℕ) (t : Term) → Within l t → version_in t ≤ v → decode_in l v (rows_of l t) ≡ ok t
unfolding decode_in rows_of
decodes_in l v t i g =
    let n = row_numbers l - length (lay in_rows t) in
    let b = script_does l v in_rows (start (rows_of l t)) t (zeros n) i g refl refl refl (λ k. blank n k) in
    answers (script l v in_rows) (rows_of l t) t b.0 b.1

-- Rows of every version.
pub decoded : (l : Limits) (rs : List ℕ) (t : Term) → Under 4294967296 rs → length rs ≡ row_numbers l → decode l rs ≡ ok t → (rs ≡ rows_of l t) × Within l t
unfolding decode
decoded l rs t n e h = let q = decoded_in l newest rs t n e h in (q.0, q.1)

pub decodes : (l : Limits) (t : Term) → Within l t → decode l (rows_of l t) ≡ ok t
unfolding decode
decodes l t i = decodes_in l newest t i (version_most t)

-- Rows that a version has are rows.
pub decoded_all : (l : Limits) (v : ℕ) (rs : List ℕ) (t : Term) → Under 4294967296 rs → length rs ≡ row_numbers l → decode_in l v rs ≡ ok t → decode l rs ≡ ok t
decoded_all l v rs t n e h = let q = decoded_in l v rs t n e h in ap (decode l) q.0 ∙ decodes l t q.1
