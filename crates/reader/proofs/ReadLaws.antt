-- What `read` answers and leaves, from what its parts answer.
use Prim.Native.Nat.{ℕ, ◌+◌, ◌-◌, ◌*◌, ◌≤◌, ◌<◌}
use native.Mathlib.Omega.{arith}
use mathlib.Core.Path.{◌≡◌, refl, sym, ap, ap₂, ◌∙◌, subst}
use mathlib.Core.Bool.{Bool, true, false}
use mathlib.Core.List.{List, [], ◌++◌}
use lib.ListN.{length, take, drop}
use lib.Seq.{sets, sets-eq, take_at, length-sets}
use borrow.Author.Tests.{le-leb, lt-leb, eq-eqb, ne_eqb, leb-true, eqb-true}
use lib.Dec.{leb, eqb}
use Rattle.syntax.specs.Result.{Result, ok, err, need, Refusal, ◌>>=◌}
use Rattle.syntax.specs.Limits.{Limits, in_ranges, max_bytes, row_numbers}
use Rattle.syntax.specs.Script.{Whole}
use Rattle.syntax.specs.Layout.{in_bytes, in_rows, lay, rows_of, zeros}
use Rattle.syntax.specs.Kinds.{knows}
use Rattle.syntax.specs.Reader.{Cursor, Reads, ◌>>=◌ as ◌>>>◌, done, next, mark, version, leading, script, whole_script, answer, parse}
use Rattle.syntax.specs.Measures.{size}
use Rattle.syntax.specs.Within.{Under}
use Rattle.syntax.specs.ByteParts.{Got, RowsAfter, read_script, whole_got, laid_whole, ScriptRead}
use Rattle.syntax.specs.Answers.{Told, Answered, lengths_fit, parsed_into, on_fit, read_of}
use Rattle.syntax.specs.ByteParts as got
use Rattle.syntax.proofs.SetFirst.{set_refused as set_refused_law}
use Rattle.script_reader.proofs.ScriptLaws.{parse_is, parse_refused}
use Rattle.syntax.proofs.Lengths.{laid_rows}
use Rattle.script_reader.proofs.WholeLaws.{script_size}

-- Readers that know the same versions read the same.
unfoldable whole_by : Limits → (ℕ → Bool) → Reads Whole
whole_by l f =
    (mark 0x52 >>> λ _. mark 0x43 >>> λ _. mark 0x53 >>> λ _. next in_bytes >>> λ a. next in_bytes >>> λ b. λ s. need (f (a * 256 + b)) (11, 3) >>= λ u. ok (a * 256 + b, s))
    >>> λ v. script l v in_bytes >>> λ t. done (record { version = v; term = t })

pub known_alike : (l : Limits) (k m : ℕ) (t rows : List ℕ) → ((v : ℕ) → knows k v ≡ knows m v) → read_of l k t rows ≡ read_of l m t rows
unfolding read_of parse whole_script leading version whole_by
known_alike l k m t rows h =
    let same : knows k ≡ knows m = λ i v. h v i in
    ap (λ (f : ℕ → Bool). on_fit (lengths_fit l t rows) rows (parsed_into l (answer (whole_by l f) t))) same

-- What an answer for a whole script says of the result that it stands for.
whole_fine : (o : Result Refusal (Whole × Cursor)) (a b c : ℕ) → got.Fine a b c ≡ whole_got o → (x : Whole) × (s : Cursor) × (o ≡ ok (x, s)) × (s.terms ≡ b) × (x.version ≡ c)
unfolding whole_got
whole_fine (ok o) a b c h = (o.0, o.1, refl, cc, cc)
whole_fine (err e) a b c h = let z : ◌≡◌ {A = ℕ} 0 1 = cc in absurd (omega arith)

whole_refused : (o : Result Refusal (Whole × Cursor)) (n p : ℕ) → got.Refused n p ≡ whole_got o → o ≡ err (n, p)
unfolding whole_got
whole_refused (ok o) n p h = let z : ◌≡◌ {A = ℕ} 0 1 = cc in absurd (omega arith)
whole_refused (err e) n p h =
    let a : n ≡ e.0 = cc in
    let b : p ≡ e.1 = cc in
    rw (a, b) refl

module _ (l : Limits) (t rows : List ℕ) where
  -- What is refused of the set and the lengths.
  pub fit_set : in_ranges l ≡ false → err (74, 0) ≡ lengths_fit l t rows
  fit_set r = sym (set_refused_law l t rows r)

  pub fit_long : in_ranges l ≡ true → 32768 < length t → err (1, 0) ≡ lengths_fit l t rows
  unfolding lengths_fit need ◌>>=◌ max_bytes
  fit_long r h = rw (r, lt-leb (length t) 32768 h) refl

  pub fit_rows : in_ranges l ≡ true → length t ≤ 32768 → (length rows ≡ row_numbers l → ⊥) → err (2, 0) ≡ lengths_fit l t rows
  unfolding lengths_fit need ◌>>=◌ max_bytes
  fit_rows r h n = rw (r, le-leb (length t) 32768 h, ne_eqb (length rows) (row_numbers l) n) refl

  pub fit_all : in_ranges l ≡ true → length t ≤ 32768 → length rows ≡ row_numbers l → ok tt ≡ lengths_fit l t rows
  unfolding lengths_fit need ◌>>=◌ max_bytes
  fit_all r h n = rw (r, le-leb (length t) 32768 h, eq-eqb (length rows) (row_numbers l) n) refl

  -- What it says that they fit.
  pub fit_says : ok tt ≡ lengths_fit l t rows → (in_ranges l ≡ true) × (length t ≤ 32768) × (length rows ≡ row_numbers l)
  unfolding lengths_fit need ◌>>=◌ max_bytes
  fit_says = go (in_ranges l) (leb (length t) 32768) (eqb (length rows) (row_numbers l)) refl refl refl
    where
      go : (x y z : Bool) → in_ranges l ≡ x → leb (length t) 32768 ≡ y → eqb (length rows) (row_numbers l) ≡ z
          → ◌≡◌ {A = Result Refusal (Unit {0})} (ok tt) (need x (74, 0) >>= λ _. need y (1, 0) >>= λ _. need z (2, 0)) → (in_ranges l ≡ true) × (length t ≤ 32768) × (length rows ≡ row_numbers l)
      go true true true a b c h = (a, leb-true _ _ b, eqb-true _ _ c)
      go true true false a b c h = let z : ◌≡◌ {A = ℕ} 0 1 = cc in absurd (omega arith)
      go true false z a b c h = let z : ◌≡◌ {A = ℕ} 0 1 = cc in absurd (omega arith)
      go false y z a b c h = let z : ◌≡◌ {A = ℕ} 0 1 = cc in absurd (omega arith)

module _ (l : Limits) (k : ℕ) (t rows : List ℕ) where
  pub read_unfit : (e : Refusal) → err e ≡ lengths_fit l t rows → ◌≡◌ {A = Answered Told} (err e, rows) (read_of l k t rows)
  unfolding read_of on_fit
  read_unfit e h = rw (sym h) refl

  module _ (ranges : in_ranges l ≡ true) (h : length t ≤ 32768) (n : length rows ≡ row_numbers l) (rows₁ : List ℕ) (r : Got) (q : ScriptRead l k t rows rows₁ r) where
    fits : lengths_fit l t rows ≡ ok tt
    unfolding lengths_fit need ◌>>=◌ max_bytes
    fits = rw (ranges, le-leb (length t) 32768 h, eq-eqb (length rows) (row_numbers l) n)

    pub read_refused : (m p : ℕ) → r ≡ got.Refused m p → length rows₁ ≡ row_numbers l → (rows₂ : List ℕ) → rows₂ ≡ take 0 rows₁ ++ zeros (length rows₁ - 0) → ◌≡◌ {A = Answered Told} (err (m, p), rows₂) (read_of l k t rows)
    unfolding read_of on_fit parsed_into
    read_refused m p e full rows₂ z =
        let o = whole_refused (read_script l k t) m p (sym e ∙ q.0) in
        let w : length rows₁ - 0 ≡ row_numbers l = omega arith in
        let y : rows₂ ≡ zeros (row_numbers l) = z ∙ ap zeros w in
        rw (fits, parse_refused l k t (m, p) o) (ap (λ (x : List ℕ). (err (m, p), x)) y)

    pub read_room : Under 256 t → (a b c : ℕ) → r ≡ got.Fine a b c → b ≤ l.terms
    read_room u a b c e =
        let w = whole_fine (read_script l k t) a b c (sym e ∙ q.0) in
        let s = script_size l k t u w.0 w.1 w.2 in
        omega (arith, s.0, s.1, w.3)

    pub read_fine : Under 256 t → (a b c : ℕ) → r ≡ got.Fine a b c → (rows₂ : List ℕ) → rows₂ ≡ take (b * 5) rows₁ ++ zeros (length rows₁ - b * 5) → ◌≡◌ {A = Answered Told} (ok (c, b), rows₂) (read_of l k t rows)
    unfolding read_of on_fit parsed_into rows_of row_numbers RowsAfter
    read_fine u a b c e rows₂ z =
        let w = whole_fine (read_script l k t) a b c (sym e ∙ q.0) in
        let x = w.0.term in
        let s = script_size l k t u w.0 w.1 w.2 in
        let p : rows₁ ≡ sets rows 0 (lay in_rows x) = subst (λ (o : Result Refusal (Whole × Cursor)). RowsAfter laid_whole o 0 rows rows₁) w.2 q.1 in
        let i : b ≡ size x = omega (arith, s.0, w.3) in
        let five : length (lay in_rows x) ≡ b * 5 = omega (arith, laid_rows x) in
        let full : length rows₁ ≡ row_numbers l = ap length p ∙ length-sets rows 0 (lay in_rows x) ∙ n in
        let f : take (b * 5) rows₁ ≡ lay in_rows x = ap (take (b * 5)) (p ∙ sets-eq (lay in_rows x) rows 0 (omega (arith, s.1))) ∙ front (lay in_rows x) (drop (0 + length (lay in_rows x)) rows) (b * 5) five in
        let m : length rows₁ - b * 5 ≡ row_numbers l - length (lay in_rows x) = omega arith in
        let told : ◌≡◌ {A = Told} (c, b) (w.0.version, size x) = λ j. (sym w.4 j, i j) in
        rw (fits, parse_is l k t w.0 w.1 w.2) (ap₂ (λ (y : Told) (v : List ℕ). (ok y, v)) told (z ∙ ap₂ (λ (y v : List ℕ). y ++ v) f (ap zeros m)))
      where
        front : (xs ys : List ℕ) (m : ℕ) → length xs ≡ m → take m ([] ++ xs ++ ys) ≡ xs
        front xs ys m e = take_at xs ys m e
