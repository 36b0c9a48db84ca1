-- What the code answers for a whole script, and the rows that it leaves.
use Prim.Native.Nat.{ℕ, ◌+◌, ◌-◌, ◌/◌, ◌%◌, ◌≤◌, ◌<◌}
use native.Mathlib.Omega.{arith}
use mathlib.Core.Path.{◌≡◌, refl, sym, ap, ap₂, ◌∙◌, subst}
use mathlib.Core.Bool.{Bool, true, false}
use mathlib.Core.List.{List, [], ◌∷◌}
use lib.ListN.{length, drop, length-drop, length-append}
use lib.Seq.{drop-drop}
use lib.Dec.{leb, ltb}
use borrow.Author.Tests.{ltb-true, ltb-false}
use Rattle.syntax.specs.Result.{Result, ok, err, Refusal, pick}
use Rattle.syntax.specs.Limits.{Limits}
use Rattle.syntax.specs.Kinds.{newest}
use Rattle.syntax.specs.Script.{Term, Whole}
use Rattle.syntax.specs.Layout.{in_bytes, in_rows, lay}
use Rattle.syntax.specs.Reader.{Cursor, nothing_left, over, script, term, start, leading, whole_script}
use Rattle.syntax.specs.Measures.{size}
use Rattle.syntax.specs.Within.{Under}
use Rattle.syntax.specs.ByteParts.{Ready, Got, got_of, RowsAfter, Reading, version_at, lead_judged, read_script, whole_got, ScriptRead}
use Rattle.script_reader.specs.Lent.{Inside, RowsFor, reached, lead_got, remaining, read_outermost, script_got, TermRead, OutermostRead, end_judged, with_version}
use Rattle.syntax.specs.ByteParts as got
use Rattle.syntax.specs.declared.refusals.Refusal as answer
use Rattle.std.specs.Prelude as prelude
use Rattle.script_reader.specs.declared.script.Script.{Script}
use Rattle.syntax.proofs.Answers.{then, ran, same, is_done}
use Rattle.syntax.proofs.Lists.{under_drop}
use Rattle.syntax.proofs.HeadSound.{under_got}
use Rattle.syntax.proofs.Sound.{sound}
use Rattle.syntax.proofs.Leading.{leading_says}
use Rattle.syntax.proofs.BlockLaws.{fine_says, refused_says}
use Rattle.term_reader.proofs.LoopLaws.{ends}
use Rattle.script_reader.proofs.ScriptLaws.{narrowed, lead_narrow, lead_room, script_lead, script_refused, script_over, script_left}

-- What the outermost term's reader asks.
pub ready_at : (l : Limits) (t : List ℕ) → Under 256 t → (at : ℕ) → Inside t at → (rows : List ℕ) → RowsFor l rows → Ready l (remaining t at) at 0 rows
ready_at l t u at h rows fit = record { ranges = fit.0; bytes = under_drop 256 at t u; room = omega (arith, length-drop at t, h.0, h.1); few = omega arith; full = fit.1 }

-- Past mark and version a reader is in the script still.
pub lead_inside : (t : List ℕ) (lead : Got) → lead ≡ lead_got (version_at t 3) (lead_judged newest t 0) → length t ≤ 32768 → Inside t (reached 0 lead)
unfolding reached lead_got
lead_inside t lead a h = (subst (λ (l : Got). reached 0 l ≤ length t) (sym a) (go (lead_judged newest t 0) refl), h)
  where
    go : (f : Result Refusal ℕ) → lead_judged newest t 0 ≡ f → reached 0 (lead_got (version_at t 3) f) ≤ length t
    go (ok n) e = let r = lead_room t newest 0 n e in omega (arith, r.0, r.1)
    go (err (n, p)) e = omega arith

module _ (l : Limits) (k : ℕ) (t : List ℕ) (u : Under 256 t) (rows rows₁ : List ℕ) where
  abbrev v : ℕ
  v = version_at t 3

  abbrev Read : Got → Type 0
  Read r = ScriptRead l k t rows rows₁ r

  whole_lead : (n p : ℕ) → lead_judged k t 0 ≡ err (n, p) → Read (got.Refused n p)
  unfolding whole_got RowsAfter
  whole_lead n p e = rw (script_lead t l k n p e) (refl, tt)

  module _ (m : ℕ) (e : lead_judged k t 0 ≡ ok m) (r : Got) (q : Reading (lay in_rows) (read_outermost l v t 5) 0 rows rows₁ r) where
    whole_refused : (n p : ℕ) → r ≡ got.Refused n p → Read r
    unfolding whole_got RowsAfter
    whole_refused n p a =
        let o = refused_says (read_outermost l v t 5) n p (sym a ∙ q.0) in
        rw (script_refused t l k m e (n, p) o) (a, tt)

    module _ (a b c : ℕ) (f : r ≡ got.Fine a b c) where
      abbrev Outer : Result Refusal (Term × Cursor)
      Outer = read_outermost l v t 5

      says : (x : Term) × (s : Cursor) × (Outer ≡ ok (x, s)) × (s.at ≡ a) × (s.terms ≡ b) × (s.boxes ≡ c)
      says = fine_says Outer a b c (sym f ∙ q.0)

      rest_is : says.1.rest ≡ drop says.1.at t
      rest_is =
          let d = ends l v l.levels true (drop 5 t) 5 0 0 says.1 says.0 (under_drop 256 5 t u) says.2 in
          let k : 5 + (says.1.at - 5) ≡ says.1.at = omega (arith, d.from) in
          d.rest ∙ drop-drop (says.1.at - 5) 5 t ∙ ap (λ (n : ℕ). drop n t) k

      whole_left : a < length t → Read (got.Refused 19 a)
      unfolding whole_got RowsAfter
      whole_left i =
          let h : says.1.at < length t = omega (arith, says.3) in
          rw (script_left t l k m e says.0 says.1 says.2 rest_is h) (ap (got.Refused 19) (sym says.3), tt)

      whole_over : length t ≤ a → Read (got.Fine a b v)
      unfolding whole_got RowsAfter
      whole_over i =
          let h : length t ≤ says.1.at = omega (arith, says.3) in
          rw (script_over t l k m e says.0 says.1 says.2 rest_is h)
          (ap₂ (λ (x y : ℕ). got.Fine x y v) (sym says.3) (sym says.4), subst (λ (o : Result Refusal (Term × Cursor)). RowsAfter (lay in_rows) o 0 rows rows₁) says.2 q.1)

  -- The answer for the outermost term, judged at the offset where the reader then stands.
  whole_end : (m : ℕ) → lead_judged k t 0 ≡ ok m → (r r' : Got) → r' ≡ with_version v r → Reading (lay in_rows) (read_outermost l v t 5) 0 rows rows₁ r → Read (end_judged r' t (reached 5 r'))
  unfolding end_judged reached with_version
  whole_end m e (got.Refused n p) r' w q = subst (λ (g : Got). Read (end_judged g t (reached 5 g))) (sym w) (whole_refused m e (got.Refused n p) q n p refl)
  whole_end m e (got.Fine a b c) r' w q = subst (λ (g : Got). Read (end_judged g t (reached 5 g))) (sym w) (go (ltb a (length t)) refl)
    where
      go : (x : Bool) → ltb a (length t) ≡ x → Read (pick x (got.Refused 19 a) (got.Fine a b v))
      go true i = whole_left m e (got.Fine a b c) q a b c refl (ltb-true _ _ i)
      go false i = whole_over m e (got.Fine a b c) q a b c refl (ltb-false _ _ i)

  -- The answers that one reader gives on its way, from the mark to the end.
  pub whole_read : (lead r end : Got) → lead ≡ lead_got v (lead_judged newest t 0) → OutermostRead l k lead t (reached 0 lead) rows rows₁ r → end ≡ end_judged r t (reached (reached 0 lead) r) → Read end
  unfolding lead_got OutermostRead TermRead reached end_judged narrowed
  whole_read lead r end a b c = subst Read (sym c) (go (lead_judged newest t 0) refl lead a b)
    where
      term : (n : ℕ) (x : Bool) → lead_judged k t 0 ≡ narrowed x (ok n) → TermRead x l v t 5 rows rows₁ r → Read (end_judged r t (reached 5 r))
      term n true e o = whole_end n e (got_of (read_outermost l v t 5)) r o.0 (refl, o.1)
      term n false e o = subst (λ (g : Got). Read (end_judged g t (reached 5 g))) (sym o) (whole_lead 11 3 e)

      go : (f : Result Refusal ℕ) → lead_judged newest t 0 ≡ f → (lead : Got) → lead ≡ lead_got v f → OutermostRead l k lead t (reached 0 lead) rows rows₁ r → Read (end_judged r t (reached (reached 0 lead) r))
      go (ok n) e lead a b =
          let f : lead ≡ got.Fine 5 0 v = a ∙ ap (λ (m : ℕ). got.Fine m 0 v) (lead_room t newest 0 n e).0 in
          let o = subst (λ (g : Got). OutermostRead l k g t (reached 0 g) rows rows₁ r) f b in
          subst (λ (g : Got). Read (end_judged r t (reached (reached 0 g) r))) (sym f) (term n (leb v k) (lead_narrow t k ∙ ap (narrowed (leb v k)) e) o)
      go (err (n, p)) e lead a b =
          let o : r ≡ got.Refused n p = subst (λ (g : Got). OutermostRead l k g t (reached 0 g) rows rows₁ r) a b in
          subst (λ (g : Got). Read (end_judged g t (reached (reached 0 lead) g))) (sym o) (whole_lead n p (lead_narrow t k ∙ ap (narrowed (leb v k)) e))

  -- The same where each answer of the reader tells where it stands after it.
  pub whole_moved : (lead r end : Got) (s₁ s₂ : List ℕ) (a₁ a₂ : ℕ) → lead ≡ lead_got v (lead_judged newest t 0) → s₁ ≡ t → a₁ ≡ reached 0 lead → OutermostRead l k lead s₁ a₁ rows rows₁ r → s₂ ≡ s₁ → a₂ ≡ reached a₁ r → end ≡ end_judged r s₂ a₂ → Read end
  whole_moved lead r end s₁ s₂ a₁ a₂ a s p o s' p' e = whole_read lead r end a (rw (s, p) at o) (rw (s', p', s, p) at e)

-- The cursor of a whole script has counted its terms, and they fit.
pub script_size : (l : Limits) (k : ℕ) (t : List ℕ) → Under 256 t → (x : Whole) (s : Cursor) → read_script l k t ≡ ok (x, s) → (s.terms ≡ size x.term) × (size x.term ≤ l.terms)
unfolding whole_script script over
script_size l k t u x s h =
    let a = ran (leading k) _ (start t) _ h in
    let g = (leading_says k (start t) a.1 a.0 a.2).0 in
    let w = ran (script l a.0 in_bytes) _ a.1 _ a.3 in
    let y = is_done (record { version = a.0; term = w.0 }) x w.1 s w.3 in
    let b = ran (term l a.0 in_bytes l.levels true) _ a.1 _ w.2 in
    let c = ran (over in_bytes) _ b.1 _ b.3 in
    let d = is_done b.0 w.0 c.1 w.1 c.3 in
    let o = then (nothing_left in_bytes b.1.at b.1.rest) (λ u. ok (u, b.1)) (c.0, c.1) c.2 in
    let r = (sound l a.0 in_bytes l.levels true a.1 b.1 b.0 (under_got 256 g u) b.2).0 in
    let n : b.1.terms ≡ s.terms = ap (λ (k : Cursor). k.terms) ((same o.2).1 ∙ d.1 ∙ y.1) in
    let m : size b.0 ≡ size x.term = ap size d.0 ∙ ap (λ (z : Whole). size z.term) y.0 in
    (omega (arith, r.terms, g.terms), omega (arith, r.terms, r.fits))

-- A whole script ends where its bytes do.
pub script_end : (l : Limits) (k : ℕ) (t : List ℕ) → Under 256 t → (x : Whole) (s : Cursor) → read_script l k t ≡ ok (x, s) → s.at ≡ length t
unfolding whole_script script over nothing_left
script_end l k t u x s h =
    let a = ran (leading k) _ (start t) _ h in
    let g = (leading_says k (start t) a.1 a.0 a.2).0 in
    let w = ran (script l a.0 in_bytes) _ a.1 _ a.3 in
    let y = is_done (record { version = a.0; term = w.0 }) x w.1 s w.3 in
    let b = ran (term l a.0 in_bytes l.levels true) _ a.1 _ w.2 in
    let c = ran (over in_bytes) _ b.1 _ b.3 in
    let d = is_done b.0 w.0 c.1 w.1 c.3 in
    let o = then (nothing_left in_bytes b.1.at b.1.rest) (λ u. ok (u, b.1)) (c.0, c.1) c.2 in
    let r = (sound l a.0 in_bytes l.levels true a.1 b.1 b.0 (under_got 256 g u) b.2).0 in
    let n : b.1.at ≡ s.at = ap (λ (k : Cursor). k.at) ((same o.2).1 ∙ d.1 ∙ y.1) in
    let m = nothing_behind b.1.at b.1.rest o.0 o.1 in
    let i : length t ≡ 5 + length a.1.rest = ap length g.rest ∙ length-append (0x52 ∷ 0x43 ∷ 0x53 ∷ a.0 / 256 ∷ a.0 % 256 ∷ []) a.1.rest in
    let j : length a.1.rest ≡ length (lay in_bytes b.0) + length b.1.rest = ap length r.rest ∙ length-append (lay in_bytes b.0) b.1.rest in
    omega (arith, g.at, r.at, n, m, i, j)
  where
    nothing_behind : (k : ℕ) (xs : List ℕ) (u : Unit {0}) → nothing_left in_bytes k xs ≡ ok u → length xs ≡ 0
    nothing_behind k [] u h = refl
    nothing_behind k (x ∷ xs) u h = let z : ◌≡◌ {A = ℕ} 0 1 = cc in absurd (omega arith)

-- So its answer may tell that offset.
pub ends_there : (l : Limits) (k : ℕ) (t : List ℕ) → Under 256 t → (rows rows₁ : List ℕ) (a b c : ℕ) → ScriptRead l k t rows rows₁ (got.Fine a b c) → ScriptRead l k t rows rows₁ (got.Fine (length t) b c)
unfolding whole_got
ends_there l k t u rows rows₁ a b c q = (go (read_script l k t) refl q.0, q.1)
  where
    go : (o : Result Refusal (Whole × Cursor)) → read_script l k t ≡ o → got.Fine a b c ≡ whole_got o → got.Fine (length t) b c ≡ whole_got o
    go (ok o) e h =
        let z : o.1.at ≡ length t = script_end l k t u o.0 o.1 e in
        let i : a ≡ o.1.at = cc in
        rw (sym (i ∙ z)) h
    go (err e) f h = let z : ◌≡◌ {A = ℕ} 0 1 = cc in absurd (omega arith)

-- The same of the code's answer.
pub ends_told : (l : Limits) (k : ℕ) (t : List ℕ) → Under 256 t → (rows rows₁ : List ℕ) (a : ℕ) (r : prelude.Result Script answer.Refusal) → ScriptRead l k t rows rows₁ (script_got a r) → ScriptRead l k t rows rows₁ (script_got (length t) r)
ends_told l k t u rows rows₁ a (prelude.Ok s) q = ends_there l k t u rows rows₁ a s.terms s.version q
ends_told l k t u rows rows₁ a (prelude.Err e) q = q
