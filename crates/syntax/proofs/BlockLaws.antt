-- A block's terms, read one after the other by a loop: what is left from here on gives what the whole gives from the start.
use Prim.Native.Nat.{ℕ, zero, suc, ◌+◌, ◌*◌}
use native.Mathlib.Omega.{arith}
use mathlib.Core.Path.{◌≡◌, refl, sym, ap, ◌∙◌}
use mathlib.Core.List.{List, ◌++◌}
use lib.ListN.{length}
use lib.Seq.{sets}
use Rattle.syntax.specs.Result.{Result, ok, err, Refusal}
use Rattle.syntax.specs.Script.{Term, Terms, last, more}
use Rattle.syntax.specs.Layout.{in_rows, lay, lays}
use Rattle.syntax.specs.Reader.{Cursor, Reads, done, several}
use Rattle.syntax.specs.ByteParts.{Got, got_of, RowsAfter, Reading}
use Rattle.syntax.specs.ByteParts as got
use Rattle.syntax.proofs.Answers.{go_on, stops}
use Rattle.syntax.proofs.Lists.{sets_append}

-- A term with its row in front of what it holds: the whole's answer and rows from those of the inner part.
pub framed : {A B : Type 0} (laid : A → List ℕ) (laid' : B → List ℕ) (wrap : A → B) (row : List ℕ) (o : Result Refusal (A × Cursor)) (whole : Result Refusal (B × Cursor))
    → ((e : Refusal) → o ≡ err e → whole ≡ err e) → ((x : A) (s : Cursor) → o ≡ ok (x, s) → whole ≡ ok (wrap x, s))
    → ((x : A) (s : Cursor) → o ≡ ok (x, s) → laid' (wrap x) ≡ row ++ laid x) → length row ≡ 5
    → (n m : ℕ) → m ≡ n + 1 → (rows rows₁ rows₂ : List ℕ) → rows₁ ≡ sets rows (n * 5) row → (r : Got) → Reading laid o m rows₁ rows₂ r → Reading laid' whole n rows rows₂ r
unfolding got_of RowsAfter
framed laid laid' wrap row (ok o) whole he ho hl len n m em rows rows₁ rows₂ e₁ r h =
    let w : whole ≡ ok (wrap o.0, o.1) = ho o.0 o.1 refl in
    rw w (h.0, h.1 ∙ rw e₁ (sets_append rows (n * 5) row (laid o.0) (m * 5) (omega arith) ∙ ap (sets rows (n * 5)) (sym (hl o.0 o.1 refl))))
framed laid laid' wrap row (err e) whole he ho hl len n m em rows rows₁ rows₂ e₁ r h =
    let w : whole ≡ err e = he e refl in
    rw w (h.0, tt)

-- What an answer says of the result that it stands for.
pub fine_says : {A : Type 0} (o : Result Refusal (A × Cursor)) (a b c : ℕ) → got.Fine a b c ≡ got_of o → (x : A) × (s : Cursor) × (o ≡ ok (x, s)) × (s.at ≡ a) × (s.terms ≡ b) × (s.boxes ≡ c)
unfolding got_of
fine_says (ok o) a b c h = (o.0, o.1, refl, cc, cc, cc)
fine_says (err e) a b c h = let z : ◌≡◌ {A = ℕ} 0 1 = cc in absurd (omega arith)

pub refused_says : {A : Type 0} (o : Result Refusal (A × Cursor)) (n p : ℕ) → got.Refused n p ≡ got_of o → o ≡ err (n, p)
unfolding got_of
refused_says (ok o) n p h = let z : ◌≡◌ {A = ℕ} 0 1 = cc in absurd (omega arith)
refused_says (err e) n p h =
    let a : n ≡ e.0 = cc in
    let b : p ≡ e.1 = cc in
    rw (a, b) refl

module _ (inner : Reads Term) where
  -- The answer with `left` terms to come.
  unfoldable pub rest_got : ℕ → Cursor → Got
  rest_got zero s = got.Fine s.at s.terms s.boxes
  rest_got (suc n) s = got_of (several inner n s)

  unfoldable pub RestRows : ℕ → Cursor → List ℕ → List ℕ → Type 0
  RestRows zero s before after = after ≡ before
  RestRows (suc n) s before after = RowsAfter (lays in_rows) (several inner n s) s.terms before after

  several_more : (n : ℕ) (s s' : Cursor) (x : Term) (o : Result Refusal (Terms × Cursor)) → inner s ≡ ok (x, s') → several inner n s' ≡ o
      → (got_of (several inner (suc n) s) ≡ got_of o)
      × ((before rows after : List ℕ) → rows ≡ sets before (s.terms * 5) (lay in_rows x) → s'.terms * 5 ≡ s.terms * 5 + length (lay in_rows x)
      → RowsAfter (lays in_rows) o s'.terms rows after → RowsAfter (lays in_rows) (several inner (suc n) s) s.terms before after)
  unfolding several got_of RowsAfter lays done
  several_more n s s' x (ok o) e h =
      let w : several inner (suc n) s ≡ ok (more x o.0, o.1) = go_on inner _ s s' x _ e (go_on (several inner n) _ s' o.1 o.0 _ h refl) in
      rw w (refl, λ before rows after p l q. q ∙ rw p (sets_append before (s.terms * 5) (lay in_rows x) (lays in_rows o.0) (s'.terms * 5) l))
  several_more n s s' x (err o) e h =
      let w : several inner (suc n) s ≡ err o = go_on inner _ s s' x _ e (stops (several inner n) _ s' o h) in
      rw w (refl, λ before rows after p l q. tt)

  -- One term more is read.
  pub rest_on : (n : ℕ) (s s' : Cursor) (x : Term) → inner s ≡ ok (x, s')
      → (rest_got (suc n) s ≡ rest_got n s')
      × ((before rows after : List ℕ) → rows ≡ sets before (s.terms * 5) (lay in_rows x) → s'.terms * 5 ≡ s.terms * 5 + length (lay in_rows x)
      → RestRows n s' rows after → RestRows (suc n) s before after)
  unfolding rest_got RestRows several got_of RowsAfter lays done
  rest_on zero s s' x e =
      let w : several inner 0 s ≡ ok (last x, s') = go_on inner _ s s' x _ e refl in
      rw w (refl, λ before rows after p l q. q ∙ p)
  rest_on (suc n) s s' x e = several_more n s s' x (several inner n s') e refl

  -- The next term is refused.
  pub rest_refused : (n : ℕ) (s : Cursor) (e : Refusal) → inner s ≡ err e → several inner n s ≡ err e
  unfolding several
  rest_refused zero s e h = stops inner _ s e h
  rest_refused (suc n) s e h = stops inner _ s e h

  -- A block of one term reads as the term, and the term as the block.
  module _ (s : Cursor) (n : ℕ) (before after : List ℕ) (r : Got) where
    abbrev Alone : Type 0
    Alone = Reading (lays in_rows) (several inner 0 s) n before after r

    one_both : (o : Result Refusal (Term × Cursor)) → inner s ≡ o → (Alone → Reading (lay in_rows) o n before after r) × (Reading (lay in_rows) o n before after r → Alone)
    unfolding several got_of RowsAfter lays done
    one_both (ok o) e =
        let w : several inner 0 s ≡ ok (last o.0, o.1) = go_on inner _ s o.1 o.0 _ e refl in
        (λ q. rw w at q, λ q. rw w q)
    one_both (err o) e =
        let w : several inner 0 s ≡ err o = stops inner _ s o e in
        (λ q. rw w at q, λ q. rw w q)

    pub one_reading : Reading (lays in_rows) (several inner 0 s) n before after r → Reading (lay in_rows) (inner s) n before after r
    one_reading q = (one_both (inner s) refl).0 q

    pub reading_one : Reading (lay in_rows) (inner s) n before after r → Reading (lays in_rows) (several inner 0 s) n before after r
    reading_one q = (one_both (inner s) refl).1 q
