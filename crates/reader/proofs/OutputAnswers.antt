-- What `judge_in_version`, `length` and `write` answer: from the tests before the rows, the answer to the rows, the count of the bytes, and what is
-- written.
use Prim.Native.Nat.{ℕ, ◌*◌, ◌≤◌, ◌<◌}
use native.Mathlib.Omega.{arith}
use mathlib.Core.Path.{◌≡◌, refl, sym, ap, ◌∙◌}
use mathlib.Core.Bool.{true, false}
use mathlib.Core.List.{List}
use lib.ListN.{length, get_or}
use lib.Seq.{sets}
use borrow.Author.Tests.{le-leb, lt-leb, eq-eqb, ne_eqb}
use Rattle.syntax.specs.Result.{Result, ok, err, need, Refusal, ◌>>=◌}
use Rattle.syntax.specs.Limits.{Limits, in_ranges, row_numbers}
use Rattle.syntax.specs.Kinds.{newest, knows}
use Rattle.syntax.specs.Script.{Term, Whole}
use Rattle.syntax.specs.Layout.{bytes_of, rows_of}
use Rattle.syntax.specs.Measures.{size}
use Rattle.syntax.specs.Reader.{decode_in}
use Rattle.syntax.specs.RowParts.{judged_in, given_terms}
use Rattle.syntax.specs.Answers.{given_whole, length_of, writable, written_into, written_of}
use Rattle.writer.specs.OutputParts.{script_from}
use Rattle.syntax.proofs.Answers.{then, halts_first}
use Rattle.syntax.proofs.Ranges.{ranged}
use Rattle.syntax.proofs.Lists.{under_all, sets_front}
use Rattle.syntax.proofs.RoundTrip.{rows_length}
use Rattle.reader.proofs.Undo.{given_says}
use Rattle.reader.proofs.OutputTrees.{rows_script}

-- Rows that are the n rows of a script in version v.
pub record Judged (l : Limits) (v : ℕ) (rows : List ℕ) (n : ℕ) : Type 0 where
  pub whole : Whole
  pub reads : given_whole l v rows ≡ ok whole
  pub script : script_from v n rows ≡ bytes_of whole
  pub room : n * 5 ≤ length rows

module _ (l : Limits) (v : ℕ) (rows : List ℕ) where
  -- What is judged before the rows.
  pub set_refused : in_ranges l ≡ false → err (74, 0) ≡ given_terms l v rows
  unfolding given_terms given_whole ◌>>=◌ need
  set_refused r = rw r

  pub rows_refused : in_ranges l ≡ true → (length rows ≡ row_numbers l → ⊥) → err (2, 0) ≡ given_terms l v rows
  unfolding given_terms given_whole ◌>>=◌ need
  rows_refused r n = rw (r, ne_eqb (length rows) (row_numbers l) n)

  module _ (ranges : in_ranges l ≡ true) (full : length rows ≡ row_numbers l) where
    pub version_refused : knows newest v ≡ false → err (11, 0) ≡ given_terms l v rows
    unfolding given_terms given_whole ◌>>=◌ need
    version_refused k = rw (ranges, eq-eqb (length rows) (row_numbers l) full, k)

    abbrev script : Term → Whole
    script t = record { version = v; term = t }

    -- The rows themselves.
    pub rows_given : knows newest v ≡ true → judged_in l v rows ≡ given_terms l v rows
    unfolding judged_in given_terms given_whole ◌>>=◌ need
    rows_given k = rw (ranges, eq-eqb (length rows) (row_numbers l) full, k) (go (decode_in l v rows))
      where
        go : (r : Result Refusal Term) → (r >>= λ t. ok (size t)) ≡ ((r >>= λ t. ok (script t)) >>= λ s. ok (size s.term))
        go (ok t) = refl
        go (err e) = refl

  -- A refusal is that of length and writing too.
  module _ (e : Refusal) (h : err e ≡ given_terms l v rows) where
    given_refused : given_whole l v rows ≡ err e
    unfolding given_terms
    given_refused = halts_first (given_whole l v rows) _ e (sym h)

    pub length_refused : err e ≡ length_of l v rows
    unfolding length_of ◌>>=◌
    length_refused = rw given_refused

    pub writing_refused : (output : List ℕ) → (err e, output) ≡ written_of l v rows output
    unfolding written_of writable written_into ◌>>=◌
    writing_refused output = rw given_refused

  -- Where a count is answered, they are the rows of a script.
  pub judged : ((i : ℕ) → get_or rows i 0 < 4294967296) → (n : ℕ) → ok n ≡ given_terms l v rows → Judged l v rows n
  unfolding given_terms row_numbers
  judged each n h =
      let q = then (given_whole l v rows) (λ s. ok (size s.term)) n (sym h) in
      let s = q.0 in
      let a = given_says l v rows s (under_all 4294967296 rows each) q.1 in
      let count : size s.term ≡ n = cc q.2 in
      record {
        whole = s;
        reads = q.1;
        script = ap (λ (k : ℕ). script_from v k rows) (sym count) ∙ ap (script_from v (size s.term)) a.3 ∙ ap (λ (k : ℕ). script_from k (size s.term) (rows_of l s.term)) a.2
            ∙ rows_script l (omega (arith, (ranged l a.0).variables)) s.version s.term a.1.version.1 a.1.term;
        room = omega (arith, ap length a.3 ∙ rows_length l s.term a.1.term, a.1.term.terms);
      }

module _ (l : Limits) (v : ℕ) (rows : List ℕ) (n bytes : ℕ) (j : Judged l v rows n) (counted : bytes ≡ length (script_from v n rows)) where
  is_length : bytes ≡ length (bytes_of j.whole)
  is_length = counted ∙ ap length j.script

  pub length_told : ok bytes ≡ length_of l v rows
  unfolding length_of ◌>>=◌
  length_told = rw j.reads (ap ok is_length)

  module _ (output : List ℕ) where
    pub short_output : length output < bytes → (err (5, 0), output) ≡ written_of l v rows output
    unfolding written_of writable written_into ◌>>=◌ need
    short_output h = rw (j.reads, lt-leb (length (bytes_of j.whole)) (length output) (omega (arith, is_length)))

    pub script_written : bytes ≤ length output → (output' : List ℕ) → output' ≡ sets output 0 (script_from v n rows) → (ok bytes, output') ≡ written_of l v rows output
    unfolding written_of writable written_into ◌>>=◌ need
    script_written h output' e =
        let room : length (bytes_of j.whole) ≤ length output = omega (arith, is_length) in
        rw (j.reads, le-leb (length (bytes_of j.whole)) (length output) room)
        (λ i. (ok (is_length i), (e ∙ ap (sets output 0) j.script ∙ sets_front output (bytes_of j.whole) room) i))
