-- What `opening`, `term` and `built` answer, step by step, from what their parts answer: an equation for each way that a reading can go.
-- For the proofs of the code, which goes the same ways.
use Prim.Native.Nat.{ℕ, zero, suc, ◌+◌, ◌-◌}
use mathlib.Core.Path.{◌≡◌, refl, ap, ◌∙◌}
use mathlib.Core.Bool.{Bool, true, false, not, ◌||◌}
use mathlib.Core.Option.{none, some}
use mathlib.Core.List.{List, [], ◌∷◌}
use lib.ListN.{length, get_or, drop}
use lib.Dec.{leb, ltb}
use Rattle.syntax.specs.Result.{Result, ok, err, need, Refusal, ◌>>=◌ as ◌&◌}
use Rattle.syntax.specs.Limits.{Limits}
use Rattle.syntax.specs.Script.{Term, Terms, number, reading, copy, move, borrow_shared, borrow_exclusive, box, declare, assign, below, block, choice, sum, last}
use Rattle.syntax.specs.Kinds.{Kind, k_number, k_reading, k_copy, k_move, k_shared, k_exclusive, k_box, k_let, k_assign, k_below, k_block, k_choice, k_sum, kind_of, fields}
use Rattle.syntax.specs.Layout.{Form, in_rows}
use Rattle.syntax.specs.Reader.{Cursor, Reads, ◌>>=◌, done, place_in, expect, first, peek, skip, operands, rest_of_row, is, boxes_of, ended, known, kind, opening, counted, several, place_at, built, term}
use Rattle.syntax.proofs.Answers.{after, stop, need_ok, need_err, go_on, stops}
use Rattle.syntax.proofs.KindBytes.{not_ended}

-- The single steps.
pub peek_ok : (w : Form) (s : Cursor) (b : ℕ) (r : List ℕ) → s.rest ≡ b ∷ r → peek w s ≡ ok (b, s)
unfolding peek first ◌&◌
peek_ok w s b r e = rw e

pub peek_err : (w : Form) (s : Cursor) → s.rest ≡ [] → peek w s ≡ err (12, place_in w s.at)
unfolding peek first ◌&◌
peek_err w s e = rw e

pub expect_ok : (w : Form) (test : Cursor → Bool) (n : ℕ) (s : Cursor) → test s ≡ true → expect w test n s ≡ ok (tt, s)
unfolding expect
expect_ok w test n s h = after (need (test s) _) (λ u. ok (u, s)) tt _ (need_ok (test s) _ h) refl

pub expect_err : (w : Form) (test : Cursor → Bool) (n : ℕ) (s : Cursor) → test s ≡ false → expect w test n s ≡ err (n, place_in w s.at)
unfolding expect
expect_err w test n s h = stop (need (test s) _) (λ u. ok (u, s)) _ (need_err (test s) _ h)

pub kind_ok : (v : ℕ) (w : Form) (b : ℕ) (s : Cursor) (k : Kind) → kind_of v b ≡ some k → kind v w b s ≡ ok (k, s)
unfolding kind known ◌&◌
kind_ok v w b s k h = rw h

pub kind_err : (v : ℕ) (w : Form) (b : ℕ) (s : Cursor) → kind_of v b ≡ none → kind v w b s ≡ err (13, place_in w s.at)
unfolding kind known ◌&◌
kind_err v w b s h = rw h

-- At a kind: 12, 13, 18, 16, or the kind.
module _ (l : Limits) (v : ℕ) (w : Form) (outer : Bool) (s : Cursor) where
  pub opening_12 : s.rest ≡ [] → opening l v w outer s ≡ err (12, place_in w s.at)
  unfolding opening
  opening_12 e = stops (peek w) _ s _ (peek_err w s e)

  -- `b` comes next.
  module _ (b : ℕ) (r : List ℕ) (e : s.rest ≡ b ∷ r) where
    opening_ended : ended w b ≡ true → opening l v w outer s ≡ err (12, place_in w s.at)
    unfolding opening
    opening_ended h =
        go_on (peek w) _ s s b _ (peek_ok w s b r e)
        (stops (expect w (λ s. not (ended w b)) 12) _ s _ (expect_err w (λ s. not (ended w b)) 12 s (ap not h)))

    pub opening_13 : ended w b ≡ false → kind_of v b ≡ none → opening l v w outer s ≡ err (13, place_in w s.at)
    unfolding opening
    opening_13 h n =
        go_on (peek w) _ s s b _ (peek_ok w s b r e)
        (go_on (expect w (λ s. not (ended w b)) 12) _ s s tt _ (expect_ok w (λ s. not (ended w b)) 12 s (ap not h))
        (stops (kind v w b) _ s _ (kind_err v w b s n)))

    -- Its kind is `k`.
    module _ (k : Kind) (h : kind_of v b ≡ some k) where
      opening_known : (x : Result Refusal (Kind × Cursor)) → (expect w (λ s. not outer || is k k_block) 18 >>= λ u. expect w (λ s. ltb s.terms l.terms) 16 >>= λ u. done k) s ≡ x → opening l v w outer s ≡ x
      unfolding opening
      opening_known x q =
          go_on (peek w) _ s s b _ (peek_ok w s b r e)
          (go_on (expect w (λ s. not (ended w b)) 12) _ s s tt _ (expect_ok w (λ s. not (ended w b)) 12 s (ap not (not_ended w v b k h)))
          (go_on (kind v w b) _ s s k _ (kind_ok v w b s k h) q))

      pub opening_18 : (not outer || is k k_block) ≡ false → opening l v w outer s ≡ err (18, place_in w s.at)
      opening_18 o = opening_known _ (stops (expect w (λ s. not outer || is k k_block) 18) _ s _ (expect_err w (λ s. not outer || is k k_block) 18 s o))

      pub opening_16 : (not outer || is k k_block) ≡ true → ltb s.terms l.terms ≡ false → opening l v w outer s ≡ err (16, place_in w s.at)
      opening_16 o t =
          opening_known _
          (go_on (expect w (λ s. not outer || is k k_block) 18) _ s s tt _ (expect_ok w (λ s. not outer || is k k_block) 18 s o)
          (stops (expect w (λ s. ltb s.terms l.terms) 16) _ s _ (expect_err w (λ s. ltb s.terms l.terms) 16 s t)))

      pub opening_ok : (not outer || is k k_block) ≡ true → ltb s.terms l.terms ≡ true → opening l v w outer s ≡ ok (k, s)
      unfolding done
      opening_ok o t =
          opening_known _
          (go_on (expect w (λ s. not outer || is k k_block) 18) _ s s tt _ (expect_ok w (λ s. not outer || is k k_block) 18 s o)
          (go_on (expect w (λ s. ltb s.terms l.terms) 16) _ s s tt _ (expect_ok w (λ s. ltb s.terms l.terms) 16 s t) refl))

pub opening_12_row : (l : Limits) (v : ℕ) (outer : Bool) (s : Cursor) (b : ℕ) (r : List ℕ) → s.rest ≡ b ∷ r → b ≡ 0 → opening l v in_rows outer s ≡ err (12, place_in in_rows s.at)
unfolding ended
opening_12_row l v outer s b r e z = opening_ended l v in_rows outer s b r e (ap (ended in_rows) z)

-- Behind the kind of a term, which is counted.
abbrev pub past : Kind → Cursor → Cursor
past k s = record { rest = drop 1 s.rest; at = suc s.at; terms = suc s.terms; boxes = s.boxes + boxes_of k }

-- A term: what its head refuses, 15, 17, what its operands and the rest of its row refuse, or what is built.
module _ (l : Limits) (v : ℕ) (w : Form) (outer : Bool) (s : Cursor) where
  pub term_refused : (d : ℕ) (e : Refusal) → opening l v w outer s ≡ err e → term l v w d outer s ≡ err e
  unfolding term
  term_refused zero e h = stops (opening l v w outer) _ s e h
  term_refused (suc d) e h = stops (opening l v w outer) _ s e h

  module _ (k : Kind) (o : opening l v w outer s ≡ ok (k, s)) where
    pub term_deep : term l v w zero outer s ≡ err (15, place_in w s.at)
    unfolding term
    term_deep = go_on (opening l v w outer) _ s s k _ o refl

    pub term_boxes : (d : ℕ) → leb (s.boxes + boxes_of k) l.boxes ≡ false → term l v w (suc d) outer s ≡ err (17, place_in w s.at)
    unfolding term
    term_boxes d b =
        go_on (opening l v w outer) _ s s k _ o
        (stops (expect w (λ s. leb (s.boxes + boxes_of k) l.boxes) 17) _ s _ (expect_err w (λ s. leb (s.boxes + boxes_of k) l.boxes) 17 s b))

    module _ (d : ℕ) (b : leb (s.boxes + boxes_of k) l.boxes ≡ true) where
      term_past : (x : Result Refusal (Term × Cursor)) → (operands w (fields l k) >>= λ vs. rest_of_row w (length vs) >>= λ u. built k s.terms vs (term l v w d)) (past k s) ≡ x → term l v w (suc d) outer s ≡ x
      unfolding term counted skip
      term_past x q =
          go_on (opening l v w outer) _ s s k _ o
          (go_on (expect w (λ s. leb (s.boxes + boxes_of k) l.boxes) 17) _ s s tt _ (expect_ok w (λ s. leb (s.boxes + boxes_of k) l.boxes) 17 s b)
          (go_on (counted k) _ s _ s.terms _ refl
          (go_on skip _ _ (past k s) tt _ refl q)))

      pub term_operands_refused : (e : Refusal) → operands w (fields l k) (past k s) ≡ err e → term l v w (suc d) outer s ≡ err e
      term_operands_refused e h = term_past _ (stops (operands w (fields l k)) _ (past k s) e h)

      module _ (vs : List ℕ) (s₂ : Cursor) (h : operands w (fields l k) (past k s) ≡ ok (vs, s₂)) where
        pub term_row_refused : (e : Refusal) → rest_of_row w (length vs) s₂ ≡ err e → term l v w (suc d) outer s ≡ err e
        term_row_refused e r = term_past _ (go_on (operands w (fields l k)) _ (past k s) s₂ vs _ h (stops (rest_of_row w (length vs)) _ s₂ e r))

        pub term_built : (s₃ : Cursor) → rest_of_row w (length vs) s₂ ≡ ok (tt, s₃) → term l v w (suc d) outer s ≡ built k s.terms vs (term l v w d) s₃
        term_built s₃ r = term_past _ (go_on (operands w (fields l k)) _ (past k s) s₂ vs _ h (go_on (rest_of_row w (length vs)) _ s₂ s₃ tt _ r refl))

-- The kinds without inner terms, and those around one.
pub data Leaf : Kind → Type 0 where
  leaf_number : Leaf k_number
  leaf_reading : Leaf k_reading
  leaf_copy : Leaf k_copy
  leaf_move : Leaf k_move
  leaf_shared : Leaf k_shared
  leaf_exclusive : Leaf k_exclusive
  leaf_below : Leaf k_below
  leaf_sum : Leaf k_sum

pub data Around : Kind → Type 0 where
  around_box : Around k_box
  around_let : Around k_let
  around_assign : Around k_assign

-- The term of a kind with `x` as its inner term, if it has one.
unfoldable pub wrapped : Kind → ℕ → List ℕ → Term → Term
wrapped k_number i vs x = number i (get_or vs 0 0)
wrapped k_reading i vs x = reading i (get_or vs 0 0)
wrapped k_copy i vs x = copy i (place_at vs 0)
wrapped k_move i vs x = move i (place_at vs 0)
wrapped k_shared i vs x = borrow_shared i (place_at vs 0)
wrapped k_exclusive i vs x = borrow_exclusive i (place_at vs 0)
wrapped k_box i vs x = box i x
wrapped k_let i vs x = declare i (get_or vs 0 0) x
wrapped k_assign i vs x = assign i (place_at vs 0) x
wrapped k_below i vs x = below i (place_at vs 0) (place_at vs 2)
wrapped k_block i vs x = block i (last x)
wrapped k_choice i vs x = choice i (place_at vs 0) 0 (last x) 0 (last x)
wrapped k_sum i vs x = sum i (place_at vs 0) (place_at vs 2)

-- What is built: a leaf at once, any other term of its inner terms, or their refusal.
module _ (i : ℕ) (vs : List ℕ) (inner : Bool → Reads Term) (s : Cursor) where
  pub leaf_ok : {k : Kind} → Leaf k → (x : Term) → built k i vs inner s ≡ ok (wrapped k i vs x, s)
  unfolding built wrapped done
  leaf_ok leaf_number x = refl
  leaf_ok leaf_reading x = refl
  leaf_ok leaf_copy x = refl
  leaf_ok leaf_move x = refl
  leaf_ok leaf_shared x = refl
  leaf_ok leaf_exclusive x = refl
  leaf_ok leaf_below x = refl
  leaf_ok leaf_sum x = refl

  around_is : {k : Kind} → Around k → built k i vs inner s ≡ (inner false >>= λ x. done (wrapped k i vs x)) s
  unfolding built wrapped
  around_is around_box = refl
  around_is around_let = refl
  around_is around_assign = refl

  pub around_err : {k : Kind} → Around k → (e : Refusal) → inner false s ≡ err e → built k i vs inner s ≡ err e
  around_err a e h = around_is a ∙ stops (inner false) _ s e h

  pub around_ok : {k : Kind} → Around k → (x : Term) (s' : Cursor) → inner false s ≡ ok (x, s') → built k i vs inner s ≡ ok (wrapped k i vs x, s')
  unfolding done
  around_ok {k} a x s' h = around_is a ∙ go_on (inner false) (λ x. done (wrapped k i vs x)) s s' x _ h refl

  pub block_err : (e : Refusal) → several (inner false) (get_or vs 0 0 - 1) s ≡ err e → built k_block i vs inner s ≡ err e
  unfolding built
  block_err e h = stops (several (inner false) (get_or vs 0 0 - 1)) _ s e h

  pub block_ok : (ts : Terms) (s' : Cursor) → several (inner false) (get_or vs 0 0 - 1) s ≡ ok (ts, s') → built k_block i vs inner s ≡ ok (block i ts, s')
  unfolding built done
  block_ok ts s' h = go_on (several (inner false) (get_or vs 0 0 - 1)) _ s s' ts _ h refl

  -- A choice: the first block's refusal, or the second's.
  pub choice_first : (e : Refusal) → inner true s ≡ err e → built k_choice i vs inner s ≡ err e
  unfolding built
  choice_first e h = stops (inner true) _ s e h

  pub choice_second : (a : Term) (s₁ : Cursor) (e : Refusal) → inner true s ≡ ok (a, s₁) → inner true s₁ ≡ err e → built k_choice i vs inner s ≡ err e
  unfolding built
  choice_second a s₁ e h k = go_on (inner true) _ s s₁ a _ h (stops (inner true) _ s₁ e k)
