-- The length, as an answer of its own, against writing and reading: it settles what writing answers, and after reading it is that of the bytes.
use Prim.Native.Nat.{ℕ, ◌≤◌, ◌<◌}
use native.Mathlib.Omega.{arith}
use mathlib.Core.Path.{◌≡◌, refl, sym, ap, ◌∙◌}
use mathlib.Core.Bool.{Bool, true, false}
use mathlib.Core.List.{List, ◌++◌}
use lib.ListN.{length, drop}
use lib.Dec.{leb, eqb}
use borrow.Author.Tests.{leb-true, leb-false, le-leb, lt-leb, ne_eqb}
use Rattle.syntax.specs.Result.{Result, ok, err, need, Refusal, pick, ◌>>=◌}
use Rattle.syntax.specs.Limits.{Limits}
use Rattle.syntax.specs.Script.{Whole}
use Rattle.syntax.specs.Layout.{bytes_of}
use Rattle.syntax.specs.Reader.{decode_in}
use Rattle.syntax.specs.Answers.{Told, Answered, given_whole, length_of, writable, written_into, written_of}
use Rattle.syntax.specs.Length.{NeverShort, ShortExactly, SameOtherwise, LengthAfterRead, LengthBound}
use Rattle.syntax.proofs.Answers.{err_ok, then, halts_first}
use Rattle.syntax.proofs.NumberRanges.{Numbered, steps}
use Rattle.syntax.proofs.FormNumbers.{decode_only}
use Rattle.syntax.proofs.RoundTrip.{byte_length_law, byte_most}
use Rattle.reader.proofs.Undo.{given_says, gives_tree, read_says}

-- No refusal of rows that are to be written has the number 5. `Numbered` takes any number of a refusal: here 0 for 5 and 1 for every other, so
-- that the range from 1 to 1 leaves out 5.
abbrev Others : {A : Type 0} → Result Refusal A → Type 0
Others m = Numbered (λ e. pick (eqb e.0 5) 0 1) 1 1 m

decoded_others : (l : Limits) (v : ℕ) (rows : List ℕ) → Others (decode_in l v rows)
decoded_others l v rows = record {
  number_in = λ e q. let z = (decode_only l v rows).number_in e q in rw (ne_eqb e.0 5 (λ f. omega (arith, z.0, f))) (omega arith, omega arith);
}

given_others : (l : Limits) (v : ℕ) (rows : List ℕ) → Others (given_whole l v rows)
unfolding given_whole
given_others l v rows = search (steps, decoded_others) depth 8

-- Where the length is answered, the rows are a script's, and it has so many bytes.
pub length_says : (l : Limits) (v : ℕ) (rows : List ℕ) (n : ℕ) → length_of l v rows ≡ ok n → (s : Whole) × (given_whole l v rows ≡ ok s) × (length (bytes_of s) ≡ n)
unfolding length_of
length_says l v rows n h = let a = then (given_whole l v rows) _ n h in (a.0, a.1, cc a.2)

module _ (l : Limits) (v : ℕ) (rows : List ℕ) where
  -- Where the length is refused, the rows are, with the same number and place.
  refused_given : (e : Refusal) → length_of l v rows ≡ err e → given_whole l v rows ≡ err e
  unfolding length_of
  refused_given e h = halts_first (given_whole l v rows) _ e h

  never_short : (p : ℕ) → length_of l v rows ≡ err (5, p) → ⊥
  never_short p h = let z : 1 ≤ 0 = ((given_others l v rows).number_in (5, p) (refused_given (5, p) h)).0 in omega (arith, z)

  written : (n : ℕ) → length_of l v rows ≡ ok n → (script : List ℕ) × (length script ≡ n) × ((output : List ℕ) → n ≤ length output → written_of l v rows output ≡ (ok n, script ++ drop n output))
  unfolding written_of writable written_into ◌>>=◌ need
  written n h =
      let a = length_says l v rows n h in
      let s = a.0 in
      (bytes_of s, a.2, λ output m. rw (a.1, le-leb (length (bytes_of s)) (length output) (omega (arith, a.2, m))) (ap (λ (k : ℕ). (ok k, bytes_of s ++ drop k output)) a.2))

  module _ (output : List ℕ) where
    refused : (e : Refusal) → length_of l v rows ≡ err e → written_of l v rows output ≡ (err e, output)
    unfolding written_of writable written_into ◌>>=◌
    refused e h = rw (refused_given e h)

    shorter : (n : ℕ) → length_of l v rows ≡ ok n → length output < n → written_of l v rows output ≡ (err (5, 0), output)
    unfolding written_of writable written_into ◌>>=◌ need
    shorter n h m = let a = length_says l v rows n h in rw (a.1, lt-leb (length (bytes_of a.0)) (length output) (omega (arith, a.2, m)))

    -- Writing is refused as the rows are, or with 5 where the output is shorter.
    only_there : (p : ℕ) → (written_of l v rows output).0 ≡ err (5, p) → (n : ℕ) × (length_of l v rows ≡ ok n) × (length output < n)
    only_there p h = go (length_of l v rows) refl
      where
        fits : (n : ℕ) → length_of l v rows ≡ ok n → (t : Bool) → leb n (length output) ≡ t → length output < n
        fits n g true q = let w = (written n g).2 output (leb-true _ _ q) in err_ok (sym h ∙ ap (λ (a : Answered ℕ). a.0) w)
        fits n g false q = leb-false _ _ q

        go : (r : Result Refusal ℕ) → length_of l v rows ≡ r → (n : ℕ) × (length_of l v rows ≡ ok n) × (length output < n)
        go (ok n) g = (n, g, fits n g (leb n (length output)) refl)
        go (err e) g =
            let q : ◌≡◌ {A = Result Refusal ℕ} (err e) (err (5, p)) = sym (ap (λ (a : Answered ℕ). a.0) (refused e g)) ∙ h in
            let z : e ≡ (5, p) = cc in absurd (never_short p (g ∙ ap err z))

pub length_never_short : (l : Limits) → NeverShort l
length_never_short l = never_short l

pub short_exactly : (l : Limits) → ShortExactly l
short_exactly l = record { shorter = shorter l; only_there = only_there l }

pub same_otherwise : (l : Limits) → SameOtherwise l
same_otherwise l = record { refused = refused l; written = written l }

pub length_bound : (l : Limits) → LengthBound l
length_bound l v rows n u h =
    let a = length_says l v rows n h in
    let g = given_says l v rows a.0 u a.1 in
    omega (arith, a.2, byte_length_law a.0, byte_most l a.0 g.0 g.1.term)

pub length_after_read : (l : Limits) → LengthAfterRead l
unfolding length_of ◌>>=◌
length_after_read l known script rows v n rows' u h =
    let r = read_says l known script rows (v, n) rows' u h in
    let s = r.1 in
    let g : given_whole l v rows' ≡ ok s = ap (λ (x : Told). given_whole l x.0 rows') r.5 ∙ ap (given_whole l s.version) r.6 ∙ gives_tree l s r.0 r.2 in
    rw g (ap (λ (x : List ℕ). ok (length x)) (sym r.4))
