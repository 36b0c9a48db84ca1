-- What `report` leaves, from what the call answers and from the line that is put into the buffer.
use Prim.Native.Nat.{ℕ, ◌≤◌, ◌<◌}
use native.Mathlib.Omega.{arith}
use mathlib.Core.Path.{◌≡◌, ap, ap₂, ◌∙◌}
use mathlib.Core.List.{List, ◌++◌}
use lib.IntN.{ℤ}
use lib.ListN.{length, take, drop}
use borrow.Author.Tests.{lt-ltb, le-ltb}
use Rattle.syntax.specs.Layout.{zeros}
use Rattle.syntax.specs.Limits.{Limits, base, row_numbers, store_numbers}
use Rattle.room.specs.Calling.{CallAnswer, CallMade, call_of}
use Rattle.program.specs.Line.{line_of, short_line, readings_of, in_front, reported, report_call, report_of, line_reported, base_report_of}
use Rattle.program.specs.declared.line.Text.{Text}
use Rattle.program.specs.Texts.{text_in, Appended}

-- A text that began empty.
module _ (before text : Text) (bytes : List ℕ) (z : before.length ≡ 0) (p : Appended before bytes text) where
  all_bytes : text_in text ≡ bytes
  all_bytes = p.holds ∙ ap (λ (n : ℕ). take n before.bytes ++ bytes) z

  module _ (l : Limits) (input rows store line : List ℕ) (r : ℕ) (after : List ℕ) (e : r ≡ text.length) (q : after ≡ in_front (text_in text) line) where
    -- It is put at the front of the line.
    in_front_law : (rows₁ store₁ : List ℕ) → (r, (rows₁, (store₁, after))) ≡ reported bytes rows₁ store₁ line
    unfolding reported
    in_front_law rows₁ store₁ =
        let n : r ≡ length bytes = omega (arith, e, z, p.ends) in
        ap₂ (λ (n : ℕ) (x : List ℕ). (n, (rows₁, (store₁, x)))) n (q ∙ ap (λ (x : List ℕ). in_front x line) all_bytes)

    pub report_short : length input < 32 → bytes ≡ short_line → (r, (rows, (store, after))) ≡ report_of l input rows store line
    unfolding report_of
    report_short s d = rw (lt-ltb (length input) 32 s) (in_front_law rows store ∙ ap (λ (x : List ℕ). reported x rows store line) d)

    pub report_called : 32 ≤ length input → (script : List ℕ) (readings : List ℤ) (answer : CallAnswer) (rows₁ store₁ : List ℕ)
        → script ≡ drop 32 input → readings ≡ readings_of input
        → (answer, (rows₁, store₁)) ≡ call_of l script readings rows store
        → bytes ≡ line_of answer
        → (r, (rows₁, (store₁, after))) ≡ report_of l input rows store line
    unfolding report_of report_call
    report_called s script readings answer rows₁ store₁ d f m t =
        let q : (answer, (rows₁, store₁)) ≡ call_of l (drop 32 input) (readings_of input) rows store = m ∙ ap₂ (λ (x : List ℕ) (y : List ℤ). call_of l x y rows store) d f in
        rw (le-ltb (length input) 32 s)
        (in_front_law rows₁ store₁ ∙ ap (λ (x : List ℕ). reported x rows₁ store₁ line) t ∙ ap (λ (x : CallMade). report_call x line) q)

-- That rows and store are the zeros of the set's lengths comes last, so that it is asked of the lists that were lent.
pub report_base : (input rows store line : List ℕ) (r : ℕ) (rows₁ store₁ after : List ℕ)
    → (r, (rows₁, (store₁, after))) ≡ report_of base input rows store line
    → rows ≡ zeros (row_numbers base) → store ≡ zeros (store_numbers base)
    → (r, after) ≡ base_report_of input line
unfolding base_report_of
report_base input rows store line r rows₁ store₁ after e p q =
    ap line_reported (e ∙ ap₂ (λ (x y : List ℕ). report_of base input x y line) p q)
