-- Limits that are nowhere smaller: whatever was within the limits is still within them, is read as before, and has the same rows with
-- zeros behind them.
use Prim.Native.Nat.{ℕ, zero, suc, ◌+◌, ◌-◌, ◌*◌}
use native.Mathlib.Omega.{arith}
use mathlib.Core.Path.{◌≡◌, sym, ap, ◌∙◌, subst}
use mathlib.Core.Option.{Option, none, some}
use mathlib.Core.List.{List, [], ◌∷◌, ◌++◌, append_assoc}
use lib.ListN.{length}
use Rattle.syntax.specs.Result.{ok}
use Rattle.syntax.specs.Limits.{Limits, row_numbers}
use Rattle.syntax.specs.Larger.{NoSmaller}
use Rattle.syntax.specs.Script.{Term, Terms, Whole, last, more}
use Rattle.syntax.specs.Kinds.{Kind, k_number, k_reading, k_copy, k_move, k_shared, k_exclusive, k_box, k_let, k_assign, k_below, k_block, k_choice, k_sum, Field, fields}
use Rattle.syntax.specs.Layout.{in_rows, zeros, lay, rows_of}
use Rattle.syntax.specs.Reader.{parse, decode}
use Rattle.syntax.specs.Measures.{size, kind_in}
use Rattle.syntax.specs.Within.{InRange, Ranges, Formed, FormedAll, Within, Allowed, Under}
use Rattle.syntax.proofs.Parts.{values, inside, FormedInside, formed_parts, parts_formed, All, AllInside, every}
use Rattle.syntax.proofs.RoundTrip.{parsed, parses, decoded, decodes, laid_rows}

-- Each field takes what the field in its place takes.
abbrev Wider : List Field → List Field → Type 0
Wider [] [] = Unit {0}
Wider [] (g ∷ gs) = ⊥
Wider (f ∷ fs) [] = ⊥
Wider (f ∷ fs) (g ∷ gs) = ((v : ℕ) → InRange f v → InRange g v) × Wider fs gs

wider_ranges : (fs gs : List Field) (vs : List ℕ) → Wider fs gs → Ranges fs vs → Ranges gs vs
wider_ranges [] [] vs m r = r
wider_ranges [] (g ∷ gs) vs m r = absurd m
wider_ranges (f ∷ fs) [] vs m r = absurd m
wider_ranges (f ∷ fs) (g ∷ gs) [] m r = r
wider_ranges (f ∷ fs) (g ∷ gs) (v ∷ vs) m r = (m.0 v r.0, wider_ranges fs gs vs m.1 r.1)

zeros_append : (a b : ℕ) → zeros (a + b) ≡ zeros a ++ zeros b
unfolding zeros
zeros_append zero b = let e : zero + b ≡ b = omega arith in ap zeros e
zeros_append (suc a) b = let e : suc a + b ≡ suc (a + b) = omega arith in ap zeros e ∙ ap (λ (x : List ℕ). 0 ∷ x) (zeros_append a b)

module _ (l m : Limits) (n : NoSmaller l m) where
  wider : (k : Kind) → Wider (fields l k) (fields m k)
  unfolding fields
  wider k_number = omega arith
  wider k_reading = omega arith
  wider k_copy = omega arith
  wider k_move = omega arith
  wider k_shared = omega arith
  wider k_exclusive = omega arith
  wider k_box = omega arith
  wider k_let = omega arith
  wider k_assign = omega arith
  wider k_below = omega arith
  wider k_block = omega arith
  wider k_choice = omega arith
  wider k_sum = omega arith

  abbrev Kept : Term → Type 0
  Kept t = (i : ℕ) → Formed l i t → Formed m i t

  kept_all : (ts : Terms) → All Kept ts → (i : ℕ) → FormedAll l i ts → FormedAll m i ts
  unfolding All FormedAll
  kept_all (last t) ih i f = ih i f
  kept_all (more t ts) ih i f = (ih.0 i f.0, kept_all ts ih.1 (i + size t) f.1)

  kept_inside : (o : Option Terms) → AllInside Kept o → (i : ℕ) → FormedInside l i o → FormedInside m i o
  unfolding AllInside FormedInside
  kept_inside none ih i f = tt
  kept_inside (some ts) ih i f = kept_all ts ih i f

  kept : (t : Term) → Kept t
  kept = every Kept (λ t ih i f.
      let p = formed_parts l i t f in
      let k = kind_in t in
      parts_formed m i t (record { number = p.number; ranges = wider_ranges (fields l k) (fields m k) (values t) (wider k) p.ranges; inner = kept_inside (inside t) ih (suc i) p.inner }))

  pub within_more : (t : Term) → Within l t → Within m t
  within_more t i = record { levels = omega (arith, i.levels, n.levels); terms = omega (arith, i.terms, n.terms); boxes = omega (arith, i.boxes, n.boxes); formed = kept t 0 i.formed; outermost = i.outermost }

  pub allowed_more : (s : Whole) → Allowed l s → Allowed m s
  allowed_more s i = record { version = i.version; kinds = i.kinds; term = within_more s.term i.term }

  pub parse_more : (k : ℕ) (bs : List ℕ) (s : Whole) → Under 256 bs → parse l k bs ≡ ok s → parse m k bs ≡ ok s
  parse_more k bs s u h =
      let q = parsed l k bs s u h in
      subst (λ (x : List ℕ). parse m k x ≡ ok s) q.0 (parses m k s (allowed_more s q.1) q.2)

  pub decode_more : (rs : List ℕ) (t : Term) → Under 4294967296 rs → length rs ≡ row_numbers l → decode l rs ≡ ok t → decode m (rows_of m t) ≡ ok t
  decode_more rs t u e h = decodes m t (within_more t (decoded l rs t u e h).1)

  -- The rows have no set in them but for their number.
  pub rows_more : (t : Term) → Within l t → rows_of m t ≡ rows_of l t ++ zeros (row_numbers m - row_numbers l)
  unfolding rows_of row_numbers
  rows_more t i =
      let k = length (lay in_rows t) in
      let e : 5 * m.terms - k ≡ (5 * l.terms - k) + (5 * m.terms - 5 * l.terms) = omega (arith, laid_rows t, i.terms, n.terms) in
      ap (λ (x : ℕ). lay in_rows t ++ zeros x) e ∙ ap (λ (x : List ℕ). lay in_rows t ++ x) (zeros_append (5 * l.terms - k) (5 * m.terms - 5 * l.terms))
      ∙ sym (append_assoc (lay in_rows t) (zeros (5 * l.terms - k)) (zeros (5 * m.terms - 5 * l.terms)))
