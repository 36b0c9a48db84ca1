-- A whole script in bytes: mark and version, the outermost block, and nothing after it.
use Prim.Native.Nat.{ℕ, zero, suc, ◌+◌, ◌≤◌, ◌<◌}
use native.Mathlib.Omega.{arith}
use mathlib.Core.Path.{◌≡◌, refl, sym, ap, ◌∙◌}
use mathlib.Core.Bool.{Bool, true, false, ◌&&◌}
use mathlib.Core.List.{List, [], ◌∷◌}
use lib.ListN.{length, get_or, drop, drop_of_length-le}
use lib.Seq.{drop-cons, drop-drop}
use lib.Dec.{leb, ltb, eqb}
use borrow.Author.Tests.{leb-true, leb-false, ltb-true, ltb-false}
use Rattle.syntax.specs.Result.{Result, ok, err, need, pick, Refusal, ◌>>=◌ as ◌&◌}
use Rattle.syntax.specs.Limits.{Limits}
use Rattle.syntax.specs.Script.{Term, Whole}
use Rattle.syntax.specs.Kinds.{newest, knows}
use Rattle.syntax.specs.Layout.{in_bytes}
use Rattle.syntax.specs.Reader.{Cursor, Reads, ◌>>=◌, done, place_in, expect, peek, skip, next, mark, version, leading, nothing_left, over, script, term, whole_script, start, answer, parse}
use Rattle.syntax.specs.Parts.{cursor}
use Rattle.syntax.specs.ByteParts.{on_number, mark_number, version_at, lead_judged, read_script}
use Rattle.script_reader.specs.Lent.{read_outermost}
use Rattle.syntax.proofs.Answers.{go_on, stops, after, stop}
use Rattle.syntax.proofs.NumberLaws.{number_fine}
use Rattle.syntax.proofs.TermSteps.{peek_ok, peek_err, expect_ok, expect_err}

-- Mark and version that are fine, of which the version is known or too new.
unfoldable pub narrowed : Bool → Result Refusal ℕ → Result Refusal ℕ
narrowed b (ok m) = pick b (ok m) (err (11, 3))
narrowed b (err (n, p)) = err (n, p)

module _ (t : List ℕ) where
  abbrev here : ℕ → Cursor
  here j = cursor (drop j t) j 0 0

  skip_here : (j : ℕ) → skip (here j) ≡ ok (tt, here (suc j))
  unfolding skip
  skip_here j = let e : j + 1 ≡ suc j = omega arith in rw (drop-drop 1 j t, e)

  peek_here : (j : ℕ) → j < length t → peek in_bytes (here j) ≡ ok (get_or t j 0, here j)
  peek_here j h = peek_ok in_bytes (here j) _ _ (drop-cons t j 0 h)

  peek_end : (j : ℕ) → length t ≤ j → peek in_bytes (here j) ≡ err (12, j)
  unfolding place_in
  peek_end j h = peek_err in_bytes (here j) (drop_of_length-le t h)

  -- One byte of the mark.
  marked : ℕ → ℕ → Result Refusal (Unit {0} × Cursor)
  marked zero j = ok (tt, here (suc j))
  marked (suc n) j = err (suc n, j)

  mark_is : (j b : ℕ) → mark b (here j) ≡ marked (mark_number t j b) j
  unfolding mark marked mark_number place_in
  mark_is j b = go (leb (length t) j) (eqb (get_or t j 0) b) refl refl
    where
      go : (x y : Bool) → leb (length t) j ≡ x → eqb (get_or t j 0) b ≡ y → mark b (here j) ≡ marked (pick x 12 (pick y 0 10)) j
      go true y l e = stops (peek in_bytes) _ (here j) _ (peek_end j (leb-true _ _ l))
      go false true l e =
          go_on (peek in_bytes) _ (here j) (here j) (get_or t j 0) _ (peek_here j (leb-false _ _ l))
          (go_on (expect in_bytes (λ s. eqb (get_or t j 0) b) 10) _ (here j) (here j) tt _ (expect_ok in_bytes _ 10 (here j) e) (skip_here j))
      go false false l e =
          go_on (peek in_bytes) _ (here j) (here j) (get_or t j 0) _ (peek_here j (leb-false _ _ l))
          (stops (expect in_bytes (λ s. eqb (get_or t j 0) b) 10) _ (here j) _ (expect_err in_bytes _ 10 (here j) e))

  next_here : (j : ℕ) → j < length t → next in_bytes (here j) ≡ ok (get_or t j 0, here (suc j))
  unfolding next done
  next_here j h = go_on (peek in_bytes) _ (here j) (here j) (get_or t j 0) _ (peek_here j h) (go_on skip _ (here j) (here (suc j)) tt _ (skip_here j) refl)

  next_end : (j : ℕ) → length t ≤ j → next in_bytes (here j) ≡ err (12, j)
  unfolding next
  next_end j h = stops (peek in_bytes) _ (here j) _ (peek_end j h)

  -- What reading mark and version answers where they are judged so.
  unfoldable pub on_lead : Result Refusal ℕ → Result Refusal (ℕ × Cursor)
  on_lead (ok m) = ok (version_at t 3, here 5)
  on_lead (err (m, p)) = err (m, p)

  versioned : ℕ → Result Refusal ℕ
  versioned n = pick (ltb (length t) 5) (err (12, length t)) (pick (knows n (version_at t 3)) (ok 5) (err (11, 3)))

  version_is : (n : ℕ) → 3 ≤ length t → version n (here 3) ≡ on_lead (versioned n)
  unfolding version versioned on_lead need ◌&◌
  version_is n h = go (ltb (length t) 5) (ltb (length t) 4) (knows n (version_at t 3)) refl refl refl
    where
      both : 5 ≤ length t → {r : Result Refusal (ℕ × Cursor)} → ◌&◌ (need (knows n (version_at t 3)) (11, 3)) (λ u. ok (version_at t 3, here 5)) ≡ r → version n (here 3) ≡ r
      both h q = go_on (next in_bytes) _ (here 3) (here 4) (get_or t 3 0) _ (next_here 3 (omega arith)) (go_on (next in_bytes) _ (here 4) (here 5) (get_or t 4 0) _ (next_here 4 (omega arith)) q)

      go : (x y z : Bool) → ltb (length t) 5 ≡ x → ltb (length t) 4 ≡ y → knows n (version_at t 3) ≡ z
          → version n (here 3) ≡ on_lead (pick x (err (12, length t)) (pick z (ok 5) (err (11, 3))))
      go true true z a b e = let l : length t ≡ 3 = omega (arith, ltb-true (length t) 4 b) in rw l (stops (next in_bytes) _ (here 3) _ (next_end 3 (omega arith)))
      go true false z a b e =
          let l : length t ≡ 4 = omega (arith, ltb-true (length t) 5 a, ltb-false (length t) 4 b) in
          rw l (go_on (next in_bytes) _ (here 3) (here 4) (get_or t 3 0) _ (next_here 3 (omega arith)) (stops (next in_bytes) _ (here 4) _ (next_end 4 (omega arith))))
      go false y true a b e = both (omega (arith, ltb-false (length t) 5 a)) (rw e)
      go false y false a b e = both (omega (arith, ltb-false (length t) 5 a)) (rw e)

  pub mark_room : (j b : ℕ) → mark_number t j b ≡ 0 → j < length t
  unfolding mark_number
  mark_room j b e = go (leb (length t) j) refl e
    where
      go : (x : Bool) → leb (length t) j ≡ x → ◌≡◌ {A = ℕ} (pick x 12 (pick (eqb (get_or t j 0) b) 0 10)) 0 → j < length t
      go true l q = absurd (omega arith)
      go false l q = leb-false _ _ l

  mark_then : (j b : ℕ) (k : Reads ℕ) (f : Result Refusal ℕ) → (mark_number t j b ≡ 0 → k (here (suc j)) ≡ on_lead f) → (mark b >>= λ u. k) (here j) ≡ on_lead (on_number (mark_number t j b) j f)
  unfolding marked on_number on_lead
  mark_then j b k f h = go (mark_number t j b) refl
    where
      go : (n : ℕ) → mark_number t j b ≡ n → (mark b >>= λ u. k) (here j) ≡ on_lead (on_number n j f)
      go zero e = go_on (mark b) _ (here j) (here (suc j)) tt _ (mark_is j b ∙ ap (λ (n : ℕ). marked n j) e) (h e)
      go (suc n) e = stops (mark b) _ (here j) _ (mark_is j b ∙ ap (λ (n : ℕ). marked n j) e)

  pub lead_is : (n : ℕ) → leading n (start t) ≡ on_lead (lead_judged n t 0)
  unfolding lead_judged leading versioned
  lead_is n = mark_then 0 0x52 _ _ (λ a. mark_then 1 0x43 _ _ (λ b. mark_then 2 0x53 (version n) (versioned n) (λ c. version_is n (mark_room 2 0x53 c))))

  -- Where mark and version are fine, they are there, five bytes, and the version is known.
  pub lead_room : (k at n : ℕ) → lead_judged k t at ≡ ok n → (n ≡ at + 5) × (at + 5 ≤ length t) × (knows k (version_at t (at + 3)) ≡ true)
  unfolding lead_judged
  lead_room k at n h = go (ltb (length t) (at + 5)) (knows k (version_at t (at + 3))) refl (number_fine _ (at + 2) n _ (number_fine _ (at + 1) n _ (number_fine _ at n _ h).1).1).1
    where
      go : (x y : Bool) → ltb (length t) (at + 5) ≡ x → pick {A = Result Refusal ℕ} x (err (12, length t)) (pick y (ok (at + 5)) (err (11, at + 3))) ≡ ok n → (n ≡ at + 5) × (at + 5 ≤ length t) × (y ≡ true)
      go true y l q = let z : ◌≡◌ {A = ℕ} 0 1 = cc in absurd (omega arith)
      go false true l q = (let e : at + 5 ≡ n = cc in omega arith, ltb-false _ _ l, refl)
      go false false l q = let z : ◌≡◌ {A = ℕ} 0 1 = cc in absurd (omega arith)

  -- A reader that knows fewer versions judges mark and version as one that knows them all, and then whether the version is too new.
  lead_narrow_at : (n v : ℕ) → pick (knows n v) (ok 5) (err (11, 3)) ≡ narrowed (leb v n) (pick (knows newest v) (ok 5) (err (11, 3)))
  unfolding knows narrowed
  lead_narrow_at n v = go (leb 1 v) (leb v n) (leb v newest)
    where
      go : (a b c : Bool) → pick (a && b && c) (ok 5) (err (11, 3)) ≡ narrowed b (pick (a && c && c) (ok 5) (err (11, 3)))
      go true true true = refl
      go true true false = refl
      go true false true = refl
      go true false false = refl
      go false b c = refl

  pub lead_narrow : (n : ℕ) → lead_judged n t 0 ≡ narrowed (leb (version_at t 3) n) (lead_judged newest t 0)
  unfolding lead_judged narrowed on_number
  lead_narrow n =
      let b = leb (version_at t 3) n in
      sym (on_number_law b (mark_number t 0 0x52) 0 _ ∙ ap (on_number (mark_number t 0 0x52) 0)
      (on_number_law b (mark_number t 1 0x43) 1 _ ∙ ap (on_number (mark_number t 1 0x43) 1)
      (on_number_law b (mark_number t 2 0x53) 2 _ ∙ ap (on_number (mark_number t 2 0x53) 2)
      (on_end b (ltb (length t) 5) _ ∙ ap (pick (ltb (length t) 5) (err (12, length t))) (sym (lead_narrow_at n (version_at t 3)))))))
    where
      on_number_law : (b : Bool) (m p : ℕ) (f : Result Refusal ℕ) → narrowed b (on_number m p f) ≡ on_number m p (narrowed b f)
      on_number_law b zero p f = refl
      on_number_law b (suc m) p f = refl

      on_end : (b x : Bool) (f : Result Refusal ℕ) → narrowed b (pick x (err (12, length t)) f) ≡ pick x (err (12, length t)) (narrowed b f)
      on_end b true f = refl
      on_end b false f = refl

  -- ---- the whole script

  pub script_lead : (l : Limits) (k n p : ℕ) → lead_judged k t 0 ≡ err (n, p) → read_script l k t ≡ err (n, p)
  unfolding on_lead whole_script
  script_lead l k n p e = stops (leading k) _ (start t) (n, p) (lead_is k ∙ ap on_lead e)

  module _ (l : Limits) (k n : ℕ) (e : lead_judged k t 0 ≡ ok n) where
    abbrev v : ℕ
    v = version_at t 3

    script_on_law : read_script l k t ≡ (script l v in_bytes >>= λ x. done (record { version = v; term = x })) (here 5)
    unfolding on_lead whole_script
    script_on_law = go_on (leading k) _ (start t) (here 5) v _ (lead_is k ∙ ap on_lead e) refl

    pub script_refused : (q : Refusal) → read_outermost l v t 5 ≡ err q → read_script l k t ≡ err q
    unfolding script
    script_refused q h = script_on_law ∙ stops (script l v in_bytes) _ (here 5) q (stops (term l v in_bytes l.levels true) _ (here 5) q h)

    pub script_over : (x : Term) (s : Cursor) → read_outermost l v t 5 ≡ ok (x, s) → s.rest ≡ drop s.at t → length t ≤ s.at → read_script l k t ≡ ok (record { version = v; term = x }, s)
    unfolding script over done nothing_left ◌&◌
    script_over x s h r i =
        let d : s.rest ≡ [] = r ∙ drop_of_length-le t i in
        let o : over in_bytes s ≡ ok (tt, s) = rw d in
        script_on_law ∙ go_on (script l v in_bytes) _ (here 5) s x _ (go_on (term l v in_bytes l.levels true) _ (here 5) s x _ h (go_on (over in_bytes) _ s s tt _ o refl)) refl

    pub script_left : (x : Term) (s : Cursor) → read_outermost l v t 5 ≡ ok (x, s) → s.rest ≡ drop s.at t → s.at < length t → read_script l k t ≡ err (19, s.at)
    unfolding script over nothing_left ◌&◌
    script_left x s h r i =
        let d : s.rest ≡ get_or t s.at 0 ∷ drop (suc s.at) t = r ∙ drop-cons t s.at 0 i in
        let o : over in_bytes s ≡ err (19, s.at) = rw d in
        script_on_law ∙ stops (script l v in_bytes) _ (here 5) _ (go_on (term l v in_bytes l.levels true) _ (here 5) s x _ h (stops (over in_bytes) _ s _ o))

pub parse_is : (l : Limits) (k : ℕ) (t : List ℕ) (x : Whole) (s : Cursor) → read_script l k t ≡ ok (x, s) → parse l k t ≡ ok x
unfolding parse answer
parse_is l k t x s h = after (read_script l k t) (λ r. ok r.0) (x, s) _ h refl

pub parse_refused : (l : Limits) (k : ℕ) (t : List ℕ) (e : Refusal) → read_script l k t ≡ err e → parse l k t ≡ err e
unfolding parse answer
parse_refused l k t e h = stop (read_script l k t) (λ r. ok r.0) e h
