-- What `write` answers where the set, the rows' length or the version is refused, or the rows are; and where they are a script's.
use Prim.Native.Nat.{ℕ, ◌<◌}
use native.Mathlib.Omega.{arith}
use mathlib.Core.Path.{◌≡◌, refl, sym, ap, ◌∙◌}
use mathlib.Core.Bool.{true, false}
use mathlib.Core.List.{List}
use lib.ListN.{length, get_or}
use lib.Dec.{leb}
use borrow.Author.Tests.{eq-eqb, ne_eqb}
use Rattle.syntax.specs.Result.{Result, ok, err, need, Refusal, ◌>>=◌}
use Rattle.syntax.specs.Limits.{Limits, in_ranges, row_numbers}
use Rattle.syntax.specs.Kinds.{newest, knows}
use Rattle.syntax.specs.Script.{Term, Whole}
use Rattle.syntax.specs.Layout.{bytes_of}
use Rattle.syntax.specs.Measures.{size}
use Rattle.syntax.specs.Reader.{decode_in}
use Rattle.syntax.specs.RowParts.{judged_in}
use Rattle.syntax.specs.Answers.{given_whole, writable, written_into, written_of}
use Rattle.writer.specs.OutputParts.{script_from}
use Rattle.syntax.proofs.Answers.{err_ok, then, after}
use Rattle.syntax.proofs.Ranges.{ranged}
use Rattle.syntax.proofs.Versions.{known_says}
use Rattle.syntax.proofs.Lists.{under_all}
use Rattle.syntax.proofs.RoundTrip.{decoded_in}
use Rattle.reader.proofs.OutputTrees.{rows_script}
use Rattle.reader.proofs.OutputAnswers.{Judged}

module _ (l : Limits) (v : ℕ) (rows output : List ℕ) where
  -- What is judged before the rows.
  pub set_refused : in_ranges l ≡ false → (err (74, 0), output) ≡ written_of l v rows output
  unfolding written_of writable given_whole written_into ◌>>=◌ need
  set_refused r = rw r

  pub length_refused : in_ranges l ≡ true → (length rows ≡ row_numbers l → ⊥) → (err (2, 0), output) ≡ written_of l v rows output
  unfolding written_of writable given_whole written_into ◌>>=◌ need
  length_refused r n = rw (r, ne_eqb (length rows) (row_numbers l) n)

  module _ (ranges : in_ranges l ≡ true) (full : length rows ≡ row_numbers l) where
    pub version_refused : knows newest v ≡ false → (err (11, 0), output) ≡ written_of l v rows output
    unfolding written_of writable given_whole written_into ◌>>=◌ need
    version_refused k = rw (ranges, eq-eqb (length rows) (row_numbers l) full, k)

    module _ (known : knows newest v ≡ true) where
      abbrev script : Term → Whole
      script t = record { version = v; term = t }

      given : given_whole l v rows ≡ (decode_in l v rows >>= λ t. ok (script t))
      unfolding given_whole ◌>>=◌ need
      given = rw (ranges, eq-eqb (length rows) (row_numbers l) full, known)

      -- Rows that are refused.
      pub refused_rows : (e : Refusal) → err e ≡ judged_in l v rows → (err e, output) ≡ written_of l v rows output
      unfolding judged_in written_of writable written_into ◌>>=◌
      refused_rows e h = rw given (go (decode_in l v rows) h)
        where
          go : (r : Result Refusal Term) → err e ≡ (r >>= λ t. ok (size t)) → (err e, output) ≡ written_into output ((r >>= λ t. ok (script t)) >>= λ s. need (leb (length (bytes_of s)) (length output)) (5, 0) >>= λ _. ok s)
          go (ok t) q = err_ok q
          go (err x) q = ap (λ (r : Result Refusal ℕ). (r, output)) q

      -- Rows that are the n rows of a tree.
      pub judged : ((i : ℕ) → get_or rows i 0 < 4294967296) → (n : ℕ) → ok n ≡ judged_in l v rows → Judged l v rows n
      unfolding judged_in row_numbers
      judged each n h =
          let q = then (decode_in l v rows) (λ t. ok (size t)) n (sym h) in
          let d = decoded_in l v rows q.0 (under_all 4294967296 rows each) full q.1 in
          let count : size q.0 ≡ n = cc q.2 in
          record {
            whole = script q.0;
            reads = given ∙ after (decode_in l v rows) (λ t. ok (script t)) q.0 _ q.1 refl;
            script = ap (λ (k : ℕ). script_from v k rows) (sym count) ∙ ap (script_from v (size q.0)) d.0
                ∙ rows_script l (omega (arith, (ranged l ranges).variables)) v q.0 (known_says newest v known).2 d.1;
            room = omega (arith, full, d.1.terms);
          }
