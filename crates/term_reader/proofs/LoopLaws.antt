-- The loop of the block reader: its invariant, and what keeps it.
use Prim.Native.Nat.{ℕ, zero, suc, ◌+◌, ◌-◌, ◌*◌, ◌≤◌, ◌<◌}
use native.Mathlib.Omega.{arith}
use mathlib.Core.Path.{◌≡◌, refl, sym, ap, ◌∙◌, subst}
use mathlib.Core.Bool.{Bool}
use mathlib.Core.List.{List}
use lib.ListN.{length, drop, take, length-drop, length-append}
use lib.Seq.{drop-drop, drop_at}
use Rattle.syntax.specs.Result.{Result, ok, Refusal}
use Rattle.syntax.specs.Limits.{Limits, row_numbers}
use Rattle.syntax.specs.Script.{Term, Terms}
use Rattle.syntax.specs.Layout.{in_bytes, in_rows, lay, lays}
use Rattle.syntax.specs.Reader.{Cursor, Reads, several, term}
use Rattle.syntax.specs.Within.{Under}
use Rattle.syntax.specs.Parts.{cursor}
use Rattle.syntax.specs.ByteParts.{Ready, Got, got_of, RowsAfter, Reading, read_term}
use Rattle.syntax.specs.ByteParts as got
use Rattle.syntax.proofs.Lists.{part_all, under_drop}
use Rattle.syntax.proofs.Sound.{sound}
use Rattle.syntax.proofs.Lengths.{laid_rows}
use Rattle.syntax.proofs.BlockLaws.{fine_says, refused_says, rest_got, RestRows, rest_on, rest_refused, reading_one}

-- `outer` says of each term that it must be a block, as those of a choice.
abbrev inner : Limits → ℕ → ℕ → Bool → Reads Term
inner l v levels outer = term l v in_bytes levels outer

abbrev all : Limits → ℕ → ℕ → Bool → ℕ → List ℕ → ℕ → ℕ → ℕ → Result Refusal (Terms × Cursor)
all l v levels outer count tail at terms boxes = several (inner l v levels outer) (count - 1) (cursor tail at terms boxes)

-- Where a term that was read ends, in the bytes that it was read from.
pub record Ends (l : Limits) (tail : List ℕ) (at : ℕ) (s : Cursor) (t : Term) (terms : ℕ) : Type 0 where
  pub from : at ≤ s.at
  pub within : s.at - at ≤ length tail
  pub rest : s.rest ≡ drop (s.at - at) tail
  pub few : s.boxes ≤ l.boxes
  pub rows : s.terms * 5 ≡ terms * 5 + length (lay in_rows t)

pub ends : (l : Limits) (v levels : ℕ) (outer : Bool) (tail : List ℕ) (at terms boxes : ℕ) (s : Cursor) (t : Term) → Under 256 tail → read_term l v levels outer tail at terms boxes ≡ ok (t, s) → Ends l tail at s t terms
ends l v levels outer tail at terms boxes s t u h =
    let r = (sound l v in_bytes levels outer (cursor tail at terms boxes) s t u h).0 in
    let n = length (lay in_bytes t) in
    let e : s.at - at ≡ n = omega (arith, r.at) in
    let k : length tail ≡ n + length s.rest = ap length r.rest ∙ length-append (lay in_bytes t) s.rest in
    record {
      from = omega (arith, r.at);
      within = omega arith;
      rest = sym (ap (λ (k : ℕ). drop k tail) e ∙ ap (drop n) r.rest ∙ drop_at (lay in_bytes t) s.rest n refl);
      few = r.few;
      rows = omega (arith, r.terms, laid_rows t);
    }

pub record Going (l : Limits) (v levels : ℕ) (outer : Bool) (count : ℕ) (tail : List ℕ) (at terms boxes : ℕ) (rows₀ rows : List ℕ) (next met boxed left : ℕ) : Type 0 where
  pub from : at ≤ next
  pub within : next - at ≤ length tail
  pub ready : Ready l (drop (next - at) tail) next boxed rows
  pub answer : rest_got (inner l v levels outer) left (cursor (drop (next - at) tail) next met boxed) ≡ got_of (all l v levels outer count tail at terms boxes)
  pub fills : (after : List ℕ) → RestRows (inner l v levels outer) left (cursor (drop (next - at) tail) next met boxed) rows after → RowsAfter (lays in_rows) (all l v levels outer count tail at terms boxes) terms rows₀ after

module _ (l : Limits) (v levels : ℕ) (outer : Bool) (tail : List ℕ) (at terms boxes : ℕ) (rows₀ : List ℕ) where
  pub going_start : (count : ℕ) → Ready l tail at boxes rows₀ → 0 < count → Going l v levels outer count tail at terms boxes rows₀ rows₀ at terms boxes count
  unfolding rest_got RestRows
  going_start zero r h = absurd (omega arith)
  going_start (suc n) r h =
      let z : at - at ≡ 0 = omega arith in
      let y : suc n - 1 ≡ n = omega arith in
      record {
        from = omega arith;
        within = omega arith;
        ready = rw z r;
        answer = rw (z, y);
        fills = rw (z, y) (λ after q. q);
      }

  module _ (count : ℕ) (rows : List ℕ) (next met boxed left : ℕ) (g : Going l v levels outer count tail at terms boxes rows₀ rows next met boxed left) where
    abbrev Here : Cursor
    Here = cursor (drop (next - at) tail) next met boxed

    abbrev Part : List ℕ
    Part = take (length tail - (next - at)) (drop (next - at) tail)

    pub going_ready : Ready l Part next boxed rows
    going_ready = rw part_all g.ready

    pub going_end : left ≤ 0 → Reading (lays in_rows) (all l v levels outer count tail at terms boxes) terms rows₀ rows (got.Fine next met boxed)
    unfolding rest_got RestRows
    going_end h =
        let z : left ≡ 0 = omega arith in
        (ap (λ (n : ℕ). rest_got (inner l v levels outer) n Here) (sym z) ∙ g.answer, g.fills rows (subst (λ (n : ℕ). RestRows (inner l v levels outer) n Here rows rows) (sym z) refl))

    module _ (more : 0 < left) (rows₁ : List ℕ) (r : Got) (q : Reading (lay in_rows) (read_term l v levels outer Part next met boxed) met rows rows₁ r) where
      here : Reading (lay in_rows) (inner l v levels outer Here) met rows rows₁ r
      here = rw part_all at q

      one_more : suc (left - 1) ≡ left
      one_more = omega arith

      pub going_refused : (n p : ℕ) → r ≡ got.Refused n p → Reading (lays in_rows) (all l v levels outer count tail at terms boxes) terms rows₀ rows₁ r
      unfolding rest_got RestRows got_of RowsAfter
      going_refused n p e =
          let w = refused_says (inner l v levels outer Here) n p (sym e ∙ here.0) in
          let f = rest_refused (inner l v levels outer) (left - 1) Here (n, p) w in (
            e ∙ sym (ap got_of f) ∙ ap (λ (k : ℕ). rest_got (inner l v levels outer) k Here) one_more ∙ g.answer,
            g.fills rows₁ (subst (λ (k : ℕ). RestRows (inner l v levels outer) k Here rows rows₁) one_more (rw f tt)),
          )

      -- It is the last one.
      pub going_last : left ≡ 1 → Reading (lays in_rows) (all l v levels outer count tail at terms boxes) terms rows₀ rows₁ r
      unfolding rest_got RestRows
      going_last e =
          let w = reading_one (inner l v levels outer) Here met rows rows₁ r here in (
            w.0 ∙ ap (λ (k : ℕ). rest_got (inner l v levels outer) k Here) (sym e) ∙ g.answer,
            g.fills rows₁ (subst (λ (k : ℕ). RestRows (inner l v levels outer) k Here rows rows₁) (sym e) w.1),
          )

      going_step : (s : Cursor) (x : Term) → inner l v levels outer Here ≡ ok (x, s) → length rows₁ ≡ row_numbers l → Going l v levels outer count tail at terms boxes rows₀ rows₁ s.at s.terms s.boxes (left - 1)
      unfolding RowsAfter
      going_step s x w full =
          let e = ends l v levels outer (drop (next - at) tail) next met boxed s x g.ready.bytes w in
          let k : s.at - at ≡ next - at + (s.at - next) = omega (arith, g.from, e.from) in
          let d : s.rest ≡ drop (s.at - at) tail = e.rest ∙ drop-drop (s.at - next) (next - at) tail ∙ ap (λ (n : ℕ). drop n tail) (sym k) in
          let c : s ≡ cursor (drop (s.at - at) tail) s.at s.terms s.boxes = ap (λ (l : List ℕ). cursor l s.at s.terms s.boxes) d in
          let o = rest_on (inner l v levels outer) (left - 1) Here s x w in
          let p = subst (λ (y : Result Refusal (Term × Cursor)). RowsAfter (lay in_rows) y met rows rows₁) w here.1 in
          record {
            from = omega (arith, g.from, e.from);
            within = omega (arith, e.within, length-drop (next - at) tail);
            ready = record {
              ranges = g.ready.ranges;
              bytes = subst (λ (l : List ℕ). Under 256 l) d (subst (λ (l : List ℕ). Under 256 l) (sym e.rest) (under_drop 256 (s.at - next) _ g.ready.bytes));
              room = omega (arith, g.ready.room, e.from, e.within, length-drop (next - at) tail, length-drop (s.at - at) tail);
              few = e.few;
              full = full;
            };
            answer = ap (rest_got (inner l v levels outer) (left - 1)) (sym c) ∙ sym o.0 ∙ ap (λ (n : ℕ). rest_got (inner l v levels outer) n Here) one_more ∙ g.answer;
            fills = λ after z. g.fills after (subst (λ (n : ℕ). RestRows (inner l v levels outer) n Here rows after) one_more (o.1 rows rows₁ after p e.rows (subst (λ (y : Cursor). RestRows (inner l v levels outer) (left - 1) y rows₁ after) (sym c) z)));
          }

      pub going_on : (a b d : ℕ) → r ≡ got.Fine a b d → length rows₁ ≡ row_numbers l → Going l v levels outer count tail at terms boxes rows₀ rows₁ a b d (left - 1)
      going_on a b d e full =
          let w = fine_says (inner l v levels outer Here) a b d (sym e ∙ here.0) in
          let s = w.1 in
          subst (λ (n : ℕ). Going l v levels outer count tail at terms boxes rows₀ rows₁ n b d (left - 1)) w.3
          (subst (λ (n : ℕ). Going l v levels outer count tail at terms boxes rows₀ rows₁ s.at n d (left - 1)) w.4
          (subst (λ (n : ℕ). Going l v levels outer count tail at terms boxes rows₀ rows₁ s.at s.terms n (left - 1)) w.5
          (going_step s w.0 w.2 full)))
