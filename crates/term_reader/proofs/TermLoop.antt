-- The loop of the term reader: its invariant, and what keeps it. Box, let and assign are read as their inner term is, one level deeper.
use Prim.Native.Nat.{ℕ, zero, suc, ◌+◌, ◌-◌, ◌*◌, ◌≤◌, ◌<◌}
use native.Mathlib.Omega.{arith}
use mathlib.Core.Path.{◌≡◌, refl, sym, ap, ◌∙◌, subst}
use mathlib.Core.Bool.{false}
use mathlib.Core.List.{List, ◌∷◌}
use lib.ListN.{length, get_or, drop, take, length-drop}
use lib.Seq.{sets, length-sets, drop-drop}
use borrow.Author.Tests.{ne_eqb}
use Rattle.syntax.specs.Result.{Result, ok, err, Refusal}
use Rattle.syntax.specs.Limits.{Limits, row_numbers}
use Rattle.syntax.specs.Kinds.{byte_of, Field}
use Rattle.syntax.specs.Layout.{in_rows, lay, lays}
use Rattle.syntax.specs.Parts.{fields_of, boxes_with}
use Rattle.syntax.specs.ByteParts.{opening_number, on_number, judged_fields, values_at, row_fields, row_with, Ready, Got, Reading, read_term, read_block, read_branches}
use Rattle.syntax.specs.ByteParts as got
use Rattle.syntax.proofs.Lists.{part_all}
use Rattle.syntax.proofs.NumberLaws.{number_says}
use Rattle.syntax.proofs.KnownKinds.{fields_block}
use Rattle.syntax.proofs.ByteLaws.{Clear, opening_clear}
use Rattle.syntax.proofs.TermLaws.{Head, around_kind, leaf_kind, leaf_boxes, with_boxes, block_kind, choice_kind, head_of, number_refused, operand_refused, leaf_returns, around_returns, block_returns, choice_returns, inner_ready, block_ready}

-- ---- parts that run to the end, as a callee gets them

abbrev part : List ℕ → ℕ → List ℕ
part t n = take (length t - n) (drop n t)

part_part : (t : List ℕ) (n m k : ℕ) → k ≡ n + m → part (part t n) m ≡ part t k
part_part t n m k e = part_all (part t n) m ∙ ap (drop m) (part_all t n) ∙ drop-drop m n t ∙ ap (λ (i : ℕ). drop i t) (sym e) ∙ sym (part_all t k)

part_length : (t : List ℕ) (n : ℕ) → length (part t n) ≡ length (drop n t)
part_length t n = ap length (part_all t n)

-- ---- the invariant

-- What the term at `next` reads as, the whole reads as.
pub record Inner (l : Limits) (v levels : ℕ) (tail : List ℕ) (at terms boxes : ℕ) (rows₀ rows : List ℕ) (next left met boxed : ℕ) : Type 0 where
  pub from : at ≤ next
  pub within : next - at ≤ length tail
  pub ready : Ready l (part tail (next - at)) next boxed rows
  pub deep : left ≤ levels
  pub same : length rows ≡ length rows₀
  pub gives : (after : List ℕ) (r : Got) → Reading (lay in_rows) (read_term l v left false (part tail (next - at)) next met boxed) met rows after r → Reading (lay in_rows) (read_term l v levels false tail at terms boxes) terms rows₀ after r

pub inner_start : (l : Limits) (v levels : ℕ) (tail : List ℕ) (at terms boxes : ℕ) (rows : List ℕ) → Ready l tail at boxes rows → Inner l v levels tail at terms boxes rows rows at levels terms boxes
inner_start l v levels tail at terms boxes rows r =
    let n : at - at ≡ 0 = omega arith in
    let z : part tail (at - at) ≡ tail = part_all tail (at - at) ∙ ap (λ (k : ℕ). drop k tail) n in
    record {
      from = omega arith;
      within = omega arith;
      ready = subst (λ (x : List ℕ). Ready l x at boxes rows) (sym z) r;
      deep = omega arith;
      same = refl;
      gives = λ after r q. subst (λ (x : List ℕ). Reading (lay in_rows) (read_term l v levels false x at terms boxes) terms rows after r) z q;
    }

module _ {l : Limits} {v levels : ℕ} {tail : List ℕ} {at terms boxes : ℕ} {rows₀ rows : List ℕ} {next left met boxed : ℕ}
    (g : Inner l v levels tail at terms boxes rows₀ rows next left met boxed) where
  abbrev Here : List ℕ
  Here = part tail (next - at)

  abbrev Whole : List ℕ → Got → Type 0
  Whole after r = Reading (lay in_rows) (read_term l v levels false tail at terms boxes) terms rows₀ after r

  abbrev Opened : Result Refusal ℕ
  Opened = on_number (opening_number l v left false Here met boxed) next (ok (get_or Here 0 0))

  pub opening_stops : (e : Refusal) → err e ≡ Opened → Whole rows (got.Refused e.0 e.1)
  unfolding on_number
  opening_stops e h = go (opening_number l v left false Here met boxed) refl h
    where
      go : (m : ℕ) → m ≡ opening_number l v left false Here met boxed → err e ≡ on_number m next (ok (get_or Here 0 0)) → Whole rows (got.Refused e.0 e.1)
      go zero i q = let z : ◌≡◌ {A = ℕ} 0 1 = cc in absurd (omega arith)
      go (suc m) i q =
          let n : e.0 ≡ suc m = cc in
          let p : e.1 ≡ next = cc in
          rw (n, p) (g.gives rows (got.Refused (suc m) next) (number_refused l v left false Here next met boxed (suc m) rows g.ready.few i (λ z. absurd (omega arith))))

  -- Nothing is wrong at the kind byte, which is b.
  module _ {b : ℕ} (o : ok b ≡ Opened) where
    opened : (opening_number l v left false Here met boxed ≡ 0) × (b ≡ get_or Here 0 0)
    opened = number_says _ next (get_or Here 0 0) b o

    pub clear : Clear l v left false Here next met boxed
    clear = opening_clear l v left false Here next met boxed g.ready.few opened.0

    kind_is : get_or Here 0 0 ≡ b
    kind_is = sym opened.1

    pub operand_stops : (e : Refusal) → err e ≡ judged_fields (fields_of l b) Here next 1 → Whole rows (got.Refused e.0 e.1)
    operand_stops e h = g.gives rows (got.Refused e.0 e.1) (operand_refused l v left false Here next met boxed e.0 e.1 rows rows clear (rw kind_is (sym h)))

    -- The operands are read, and their row.
    module _ {used : ℕ} (h : ok used ≡ judged_fields (fields_of l b) Here next 1) {vs : List ℕ} (f : vs ≡ row_fields (values_at (fields_of l b) Here 1)) where
      head : Head l v left false Here next met boxed used
      head = head_of l v left false Here next met boxed clear used (rw kind_is (sym h))

      byte : byte_of head.k ≡ b
      byte = head.byte ∙ kind_is

      abbrev Rest : List ℕ
      Rest = part Here used

      pub used_within : used ≤ length Here
      used_within = head.within

      pub rest_near : next + used ≤ 32768
      rest_near = omega (arith, head.within, g.ready.room)

      pub rest_within : next + used - at ≤ length tail
      rest_within = omega (arith, g.from, head.within, g.within, part_length tail (next - at), length-drop (next - at) tail)

      module _ {rows₁ : List ℕ} (w : rows₁ ≡ sets rows (met * 5) (b ∷ vs)) where
        row : rows₁ ≡ sets rows (met * 5) (row_with (get_or Here 0 0) (values_at (fields_of l (get_or Here 0 0)) Here 1))
        row = rw kind_is (w ∙ ap (λ (x : List ℕ). sets rows (met * 5) (b ∷ x)) f)

        same_length : length rows₁ ≡ row_numbers l
        same_length = ap length w ∙ length-sets rows (met * 5) (b ∷ vs) ∙ g.ready.full

        pub leaf_stops : (7 ≤ b → 9 < b) → (b ≡ 11 → ⊥) → (b ≡ 12 → ⊥) → Whole rows₁ (got.Fine (next + used) (met + 1) (boxes_with b boxed))
        leaf_stops x y z =
            let k = leaf_kind head.k (λ i. omega (arith, byte, x (omega (arith, byte, i)))) (λ i. y (sym byte ∙ i)) (λ i. z (sym byte ∙ i)) in
            let n : boxed ≡ boxes_with b boxed = omega (arith, ap (λ (n : ℕ). boxes_with n boxed) (sym byte) ∙ with_boxes head.k boxed, leaf_boxes k) in
            subst (λ (n : ℕ). Whole rows₁ (got.Fine (next + used) (met + 1) n)) n
            (g.gives rows₁ (got.Fine (next + used) (met + 1) boxed) (leaf_returns l v left false Here next met boxed used head rows rows₁ row k))

        -- Where blocks follow, no box is met.
        no_box : (b ≡ 7 → ⊥) → boxes_with b boxed ≡ boxed
        unfolding boxes_with
        no_box z = rw (ne_eqb b 7 z) refl

        blocks_ready : Ready l Rest (next + used) boxed rows₁
        blocks_ready = block_ready l v left false Here next met boxed used head rows rows₁ row g.ready same_length

        -- A block's terms follow.
        module _ (k : b ≡ 11) where
          count_is : get_or vs 0 0 ≡ get_or Here 1 0
          unfolding values_at
          count_is = ap (λ (x : List ℕ). get_or x 0 0) (f ∙ ap (λ (fs : List Field). row_fields (values_at fs Here 1)) (ap (fields_of l) k ∙ fields_block l))

          pub block_asks : Ready l Rest (next + used) (boxes_with b boxed) rows₁ × (0 < get_or vs 0 0)
          block_asks = (rw (no_box (omega arith)) blocks_ready, omega (arith, count_is, head.several (block_kind head.k (byte ∙ k))))

          pub block_stops : (rows₂ : List ℕ) (r : Got) → Reading (lays in_rows) (read_block l v (left - 1) (get_or vs 0 0) Rest (next + used) (met + 1) (boxes_with b boxed)) (met + 1) rows₁ rows₂ r → Whole rows₂ r
          block_stops rows₂ r p =
              g.gives rows₂ r (block_returns l v left false Here next met boxed used head rows rows₁ row (block_kind head.k (byte ∙ k)) rows₂ r
              (rw (count_is, no_box (omega arith)) at p))

        -- A choice's two blocks follow.
        module _ (k : b ≡ 12) where
          pub choice_asks : Ready l Rest (next + used) (boxes_with b boxed) rows₁
          choice_asks = rw (no_box (omega arith)) blocks_ready

          pub choice_stops : (rows₂ : List ℕ) (r : Got) → Reading (lays in_rows) (read_branches l v (left - 1) Rest (next + used) (met + 1) (boxes_with b boxed)) (met + 1) rows₁ rows₂ r → Whole rows₂ r
          choice_stops rows₂ r p =
              g.gives rows₂ r (choice_returns l v left false Here next met boxed used head rows rows₁ row (choice_kind head.k (byte ∙ k)) rows₂ r
              (rw (no_box (omega arith)) at p))

        -- One inner term follows.
        pub inner_on : 7 ≤ b → b ≤ 9 → Inner l v levels tail at terms boxes rows₀ rows₁ (next + used) (left - 1) (met + 1) (boxes_with b boxed)
        inner_on x y =
            let a = around_kind head.k (omega (arith, byte, x)) (λ z. omega (arith, byte)) (λ z. omega (arith, byte)) (λ z. omega (arith, byte)) (λ z. omega (arith, byte)) in
            let e : Rest ≡ part tail (next + used - at) = part_part tail (next - at) used (next + used - at) (omega (arith, g.from)) in
            record {
              from = omega (arith, g.from);
              within = rest_within;
              ready = subst (λ (x : List ℕ). Ready l x (next + used) (boxes_with b boxed) rows₁) e
                  (rw kind_is at (inner_ready l v left false Here next met boxed used head rows rows₁ row g.ready same_length));
              deep = omega (arith, g.deep);
              same = ap length w ∙ length-sets rows (met * 5) (b ∷ vs) ∙ g.same;
              gives = λ after r p. g.gives after r (around_returns l v left false Here next met boxed used head rows rows₁ row a after r
                  (subst (λ (t : List ℕ). Reading (lay in_rows) (read_term l v (left - 1) false t (next + used) (met + 1) (boxes_with (get_or Here 0 0) boxed)) (met + 1) rows₁ after r) (sym e) (rw (sym kind_is) at p)));
            }
