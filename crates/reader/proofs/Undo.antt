-- Reading and writing undo each other, for every set: the proofs of the statements in `syntax/specs/Undo`. That the set is in its ranges follows from
-- the answer.
use Prim.Native.Nat.{ℕ, ◌≤◌}
use native.Mathlib.Omega.{arith}
use mathlib.Core.Path.{◌≡◌, refl, sym, ap, ap₂, ◌∙◌, subst}
use mathlib.Core.Bool.{true}
use mathlib.Core.List.{List, ◌++◌}
use lib.ListN.{length, take, drop}
use lib.Seq.{take_at}
use lib.Dec.{leb, eqb}
use borrow.Author.Tests.{le-leb, eqb-true, eq-eqb}
use Rattle.syntax.specs.Result.{Result, ok, err, need, Refusal, ◌>>=◌}
use Rattle.syntax.specs.Limits.{Limits, in_ranges, max_bytes, row_numbers}
use Rattle.syntax.specs.Kinds.{newest, knows}
use Rattle.syntax.specs.Script.{Term, Whole}
use Rattle.syntax.specs.Layout.{bytes_of, rows_of}
use Rattle.syntax.specs.Reader.{parse, decode_in}
use Rattle.syntax.specs.Measures.{size}
use Rattle.syntax.specs.Within.{Under, Within, Allowed}
use Rattle.syntax.specs.Answers.{Told, Answered, lengths_fit, parsed_into, on_fit, read_of, rows_tree, judged_of, given_whole, writable, written_into, written_of}
use Rattle.syntax.specs.Undo.{ReadAfterWrite, WriteAfterRead, JudgedAreRead, ReadIsAllowed, AllowedIsRead}
use Rattle.reader.proofs.Promise.{tree_decoded}
use Rattle.syntax.proofs.SetFirst.{set_taken}
use Rattle.syntax.proofs.Answers.{err_ok, then, needed}
use Rattle.syntax.proofs.Versions.{known_says, known_does, version_most, newest_known}
use Rattle.syntax.proofs.RoundTrip.{parsed, parses, decoded, decoded_in, decodes, decodes_in, byte_length_law, byte_most, rows_length}

-- ---- what an answer says of its input

-- Rows that are to be written are a script's.
pub given_says : (l : Limits) (v : ℕ) (rows : List ℕ) (s : Whole) → Under 4294967296 rows → given_whole l v rows ≡ ok s
    → (in_ranges l ≡ true) × Allowed l s × (v ≡ s.version) × (rows ≡ rows_of l s.term)
unfolding given_whole
given_says l v rows s u h =
    let r = then (need (in_ranges l) (74, 0)) _ s h in
    let c = then (need (eqb (length rows) (row_numbers l)) (2, 0)) _ s r.2 in
    let k = then (need (knows newest v) (11, 0)) _ s c.2 in
    let f = then (decode_in l v rows) _ s k.2 in
    let d = decoded_in l v rows f.0 u (eqb-true _ _ (needed _ _ c.0 c.1)) f.1 in
    let m = known_says newest v (needed _ _ k.0 k.1) in
    let e : record { version = v; term = f.0 } ≡ s = cc f.2 in
    (needed _ _ r.0 r.1, subst (Allowed l) e (record { version = (m.0, m.2); kinds = d.2; term = d.1 }), ap (λ (x : Whole). x.version) e, d.0 ∙ ap (λ (x : Whole). rows_of l x.term) e)

-- Rows that were written are a script's, and the output has its bytes.
written_says : (l : Limits) (v : ℕ) (rows output : List ℕ) (n : ℕ) (output' : List ℕ) → written_of l v rows output ≡ (ok n, output')
    → (s : Whole) × (given_whole l v rows ≡ ok s) × (n ≡ length (bytes_of s)) × (output' ≡ bytes_of s ++ drop (length (bytes_of s)) output)
unfolding written_of written_into writable
written_says l v rows output n output' h = go (writable l v rows output) refl h
  where
    go : (r : Result Refusal Whole) → writable l v rows output ≡ r → written_into output r ≡ (ok n, output')
        → (s : Whole) × (given_whole l v rows ≡ ok s) × (n ≡ length (bytes_of s)) × (output' ≡ bytes_of s ++ drop (length (bytes_of s)) output)
    go (err e) w q = err_ok (ap (λ (a : Answered ℕ). a.0) q)
    go (ok s) w q =
        let a = then (given_whole l v rows) _ s w in
        let b = then (need (leb (length (bytes_of a.0)) (length output)) (5, 0)) _ s a.2 in
        let e : a.0 ≡ s = cc b.2 in
        let n' : ◌≡◌ {A = Result Refusal ℕ} (ok (length (bytes_of s))) (ok n) = ap (λ (x : Answered ℕ). x.0) q in
        (s, a.1 ∙ ap ok e, cc, sym (ap (λ (x : Answered ℕ). x.1) q))

-- A script that was read is a tree's bytes, and the rows are its rows.
pub read_says : (l : Limits) (k : ℕ) (script rows : List ℕ) (r : Told) (rows' : List ℕ) → Under 256 script → read_of l k script rows ≡ (ok r, rows')
    → (in_ranges l ≡ true) × (s : Whole) × Allowed l s × (s.version ≤ k) × (script ≡ bytes_of s) × (r ≡ (s.version, size s.term)) × (rows' ≡ rows_of l s.term)
unfolding read_of on_fit parsed_into
read_says l k script rows n rows' u h = go (lengths_fit l script rows) refl (parse l k script) refl h
  where
    go : (f : Result Refusal (Unit {0})) → lengths_fit l script rows ≡ f → (r : Result Refusal Whole) → parse l k script ≡ r → on_fit f rows (parsed_into l r) ≡ (ok n, rows')
        → (in_ranges l ≡ true) × (s : Whole) × Allowed l s × (s.version ≤ k) × (script ≡ bytes_of s) × (n ≡ (s.version, size s.term)) × (rows' ≡ rows_of l s.term)
    go (err e) g r p q = err_ok (ap (λ (a : Answered Told). a.0) q)
    go (ok x) g (err e) p q = err_ok (ap (λ (a : Answered Told). a.0) q)
    go (ok x) g (ok s) p q =
        let d = parsed l k script s u p in
        let n' : ◌≡◌ {A = Result Refusal Told} (ok (s.version, size s.term)) (ok n) = ap (λ (a : Answered Told). a.0) q in
        (set_taken l script rows x g, s, d.1, d.2, sym d.0, sym (cc n'), sym (ap (λ (a : Answered Told). a.1) q))

-- ---- what a tree's bytes and rows are answered with

pub reads_tree : (l : Limits) (k : ℕ) (s : Whole) (rows : List ℕ) → in_ranges l ≡ true → Allowed l s → s.version ≤ k → length rows ≡ row_numbers l
    → read_of l k (bytes_of s) rows ≡ (ok (s.version, size s.term), rows_of l s.term)
unfolding read_of lengths_fit on_fit parsed_into need ◌>>=◌
reads_tree l k s rows r i m e =
    let b : length (bytes_of s) ≤ max_bytes = omega (arith, byte_length_law s, byte_most l s r i.term) in
    rw (r, le-leb (length (bytes_of s)) max_bytes b, eq-eqb (length rows) (row_numbers l) e, parses l k s i m)

pub gives_tree : (l : Limits) (s : Whole) → in_ranges l ≡ true → Allowed l s → given_whole l s.version (rows_of l s.term) ≡ ok s
unfolding given_whole need ◌>>=◌
gives_tree l s r i =
    rw (r, eq-eqb (length (rows_of l s.term)) (row_numbers l) (rows_length l s.term i.term), known_does newest s.version i.version.0 i.version.1 i.version.1, decodes_in l s.version s.term i.term i.kinds)

writes_tree : (l : Limits) (s : Whole) (output : List ℕ) → in_ranges l ≡ true → Allowed l s → length (bytes_of s) ≤ length output
    → written_of l s.version (rows_of l s.term) output ≡ (ok (length (bytes_of s)), bytes_of s ++ drop (length (bytes_of s)) output)
unfolding written_of written_into writable need ◌>>=◌
writes_tree l s output r i m = rw (gives_tree l s r i, le-leb (length (bytes_of s)) (length output) m)

-- A tree's rows are judged as its number of terms.
judges_tree : (l : Limits) (t : Term) → in_ranges l ≡ true → Within l t → judged_of l (rows_of l t) ≡ ok (size t)
unfolding judged_of rows_tree need ◌>>=◌
judges_tree l t r i = rw (r, eq-eqb (length (rows_of l t)) (row_numbers l) (rows_length l t i), decodes l t i)

-- ---- the statements

pub read_after_write : (l : Limits) → ReadAfterWrite l
read_after_write l v known rows output n output' others u e g h =
    let w = written_says l v rows output n output' h in
    let s = w.0 in
    let a = given_says l v rows s u w.1 in
    let b : take n output' ≡ bytes_of s = ap (take n) w.3 ∙ take_at (bytes_of s) (drop (length (bytes_of s)) output) n (sym w.2) in (
      size s.term,
      ap (judged_of l) a.3 ∙ judges_tree l s.term a.0 a.1.term,
      ap (λ (x : List ℕ). read_of l known x others) b ∙ reads_tree l known s others a.0 a.1 (omega (arith, a.2)) e
          ∙ ap₂ (λ (k : ℕ) (x : List ℕ). (ok (k, size s.term), x)) (sym a.2) (sym a.3),
    )

pub write_after_read : (l : Limits) → WriteAfterRead l
write_after_read l known script rows v n rows' output u h m =
    let r = read_says l known script rows (v, n) rows' u h in
    let s = r.1 in
    let room : length (bytes_of s) ≤ length output = subst (λ (x : List ℕ). length x ≤ length output) r.4 m in (
      ap (judged_of l) r.6 ∙ judges_tree l s.term r.0 r.2.term ∙ ap (λ (x : Told). ok x.1) (sym r.5),
      ap₂ (λ (x : Told) (y : List ℕ). written_of l x.0 y output) r.5 r.6 ∙ writes_tree l s output r.0 r.2 room
          ∙ ap (λ (x : List ℕ). (ok (length x), x ++ drop (length x) output)) (sym r.4),
    )

pub judged_are_read : (l : Limits) → JudgedAreRead l
unfolding judged_of
judged_are_read l rows n others u e h =
    let a = then (rows_tree l rows) (λ t. ok (size t)) n h in
    let t = a.0 in
    let c = tree_decoded l rows t a.1 in
    let d = decoded l rows t u c.length c.decodes in
    let k : size t ≡ n = cc a.2 in
    let s : Whole = record { version = newest; term = t } in
    let allowed : Allowed l s = record { version = newest_known; kinds = version_most t; term = d.1 } in
    (bytes_of s, reads_tree l newest s others c.ranges allowed (omega arith) e ∙ ap₂ (λ (k : ℕ) (x : List ℕ). (ok (newest, k), x)) k (sym d.0))

pub read_is_allowed : (l : Limits) → ReadIsAllowed l
read_is_allowed l known script rows v n rows' u h =
    let r = read_says l known script rows (v, n) rows' u h in
    let version : v ≡ r.1.version = ap (λ (x : Told). x.0) r.5 in
    (r.1, r.2, sym version, omega (arith, r.3, version), r.4, ap (λ (x : Told). x.1) r.5, r.6)

pub allowed_is_read : (l : Limits) → AllowedIsRead l
allowed_is_read l s known others output r i m e room = (reads_tree l known s others r i m e, writes_tree l s output r i room)
