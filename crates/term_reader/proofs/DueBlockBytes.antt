-- A term in bytes that must be a block: the code asks that first, of its kind byte, and then reads the term as any other.
use Prim.Native.Nat.{ℕ, zero, suc, ◌+◌, ◌-◌, ◌≤◌}
use native.Mathlib.Omega.{arith}
use mathlib.Core.Path.{◌≡◌, refl, sym, ap, ◌∙◌}
use mathlib.Core.Bool.{Bool, true, false, false≢true, not, ◌&&◌}
use mathlib.Core.List.{List}
use lib.ListN.{length, get_or, drop}
use lib.Dec.{ltb, eqb}
use borrow.Author.Tests.{lt-ltb, ne_eqb, ltb-true, eqb-false}
use Rattle.syntax.specs.Result.{Result, ok, err, pick, Refusal}
use Rattle.syntax.specs.Limits.{Limits}
use Rattle.syntax.specs.Kinds.{Kind, fields}
use Rattle.syntax.specs.Layout.{in_bytes}
use Rattle.syntax.specs.Reader.{boxes_of, built, term}
use Rattle.syntax.specs.Parts.{cursor, known_in, fields_of}
use Rattle.syntax.specs.ByteParts.{opening_number, no_block_byte, judged_fields, values_at, read_term}
use Rattle.syntax.proofs.HeadSound.{both}
use Rattle.syntax.proofs.ByteLaws.{opening_refused, opening_clear, Clear, term_stops, term_goes}

-- The tests of a byte that is no kind's, or a block's, are the same whether a block is asked for or not.
same_number : (v : ℕ) (t : List ℕ) (x : ℕ) → no_block_byte v t ≡ false
    → pick (eqb (length t) 0) 12 (pick (not (known_in v (get_or t 0 0))) 13 (pick (not (eqb (get_or t 0 0) 11)) 18 x))
    ≡ pick (eqb (length t) 0) 12 (pick (not (known_in v (get_or t 0 0))) 13 x)
unfolding no_block_byte
same_number v t x h = go (eqb (length t) 0) (known_in v b) (eqb b 11) refl refl refl
  where
    b : ℕ
    b = get_or t 0 0

    go : (s u w : Bool) → eqb (length t) 0 ≡ s → known_in v b ≡ u → eqb b 11 ≡ w → pick s 12 (pick (not u) 13 (pick (not w) 18 x)) ≡ pick s 12 (pick (not u) 13 x)
    go true u w p q z = refl
    go false false w p q z = refl
    go false true true p q z = refl
    go false true false p q z =
        let some_byte : ltb 0 (length t) ≡ true = lt-ltb 0 (length t) (omega (arith, eqb-false (length t) 0 p)) in
        let e : (ltb 0 (length t) && (known_in v b && not (eqb b 11))) ≡ true = rw (some_byte, q, z) in
        absurd (false≢true (sym h ∙ e))

module _ (l : Limits) (v levels : ℕ) (t : List ℕ) (at n b : ℕ) (fits : b ≤ l.boxes) where
  pub byte_refused : no_block_byte v t ≡ true → read_term l v levels true t at n b ≡ err (18, at)
  unfolding no_block_byte opening_number
  byte_refused h =
      let x = get_or t 0 0 in
      let o = both (ltb 0 (length t)) (known_in v x && not (eqb x 11)) h in
      let p = both (known_in v x) (not (eqb x 11)) o.1 in
      let some_byte = ltb-true 0 (length t) o.0 in
      let e : opening_number l v levels true t n b ≡ 18 = rw (ne_eqb (length t) 0 (λ z. omega arith), p.0, p.1) in
      opening_refused l v levels true t at n b fits 17 e

  alike : (c : Clear l v levels true t at n b) (d : Clear l v levels false t at n b) → read_term l v levels true t at n b ≡ read_term l v levels false t at n b
  alike c d = go (judged_fields (fields_of l (get_or t 0 0)) t at 1) refl
    where
      k : c.k ≡ d.k
      k = cc (c.kind, d.kind)

      go : (f : Result Refusal ℕ) → judged_fields (fields_of l (get_or t 0 0)) t at 1 ≡ f → read_term l v levels true t at n b ≡ read_term l v levels false t at n b
      go (ok used) e =
          term_goes c used e
          ∙ ap (λ (k : Kind). built k n (values_at (fields l k) t 1) (term l v in_bytes (levels - 1)) (cursor (drop used t) (at + used) (suc n) (b + boxes_of k))) k
          ∙ sym (term_goes d used e)
      go (err (m, p)) e = term_stops c m p e ∙ sym (term_stops d m p e)

  pub byte_same : no_block_byte v t ≡ false → read_term l v levels true t at n b ≡ read_term l v levels false t at n b
  unfolding opening_number
  byte_same h = go (opening_number l v levels false t n b) refl
    where
      same : opening_number l v levels true t n b ≡ opening_number l v levels false t n b
      same = same_number v t _ h

      go : (m : ℕ) → opening_number l v levels false t n b ≡ m → read_term l v levels true t at n b ≡ read_term l v levels false t at n b
      go zero e = alike (opening_clear l v levels true t at n b fits (same ∙ e)) (opening_clear l v levels false t at n b fits e)
      go (suc m) e = opening_refused l v levels true t at n b fits m (same ∙ e) ∙ sym (opening_refused l v levels false t at n b fits m e)
