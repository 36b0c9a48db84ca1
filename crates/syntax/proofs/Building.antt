-- Building a term, both ways: what a built term says of its parts, and that a term is built again from its parts.
use Prim.Native.Nat.{ℕ, zero, suc, ◌-◌, ◌≤◌}
use native.Mathlib.Omega.{arith}
use mathlib.Core.Path.{◌≡◌, refl, sym, ap, ◌∙◌, subst}
use mathlib.Core.Bool.{Bool, true, false, false≢true}
use mathlib.Core.Option.{Option, none, some}
use mathlib.Core.List.{List, [], ◌∷◌, ◌++◌}
use lib.ListN.{length, get_or}
use Rattle.syntax.specs.Result.{ok}
use Rattle.syntax.specs.Limits.{Limits}
use Rattle.syntax.specs.Script.{Term, Terms, number, reading, copy, move, borrow_shared, borrow_exclusive, box, declare, assign, below, block, choice, sum, last, more}
use Rattle.syntax.specs.Kinds.{Kind, k_number, k_reading, k_copy, k_move, k_shared, k_exclusive, k_box, k_let, k_assign, k_below, k_block, k_choice, k_sum, byte_of, until, fields}
use Rattle.syntax.specs.Layout.{place_of, others}
use Rattle.syntax.specs.Reader.{Cursor, Reads, ◌>>=◌, done, is, several, place_at, branch, built}
use Rattle.syntax.specs.Measures.{kind_in}
use Rattle.syntax.specs.Within.{Ranges}
use Rattle.syntax.proofs.Answers.{ran, go_on, is_done}
use Rattle.syntax.proofs.OperandLaws.{as_many}
use Rattle.syntax.proofs.Parts.{number_in, values, inside, All, AllInside}

-- The reader m reads these inner terms, from s to s'.
unfoldable pub ReadsInside : Reads Term → Option Terms → Cursor → Cursor → Type 0
ReadsInside m none s s' = s ≡ s'
ReadsInside m (some ts) s s' = several m (others ts) s ≡ ok (ts, s')

pub several_count : (m : Reads Term) (n : ℕ) (s s' : Cursor) (ts : Terms) → several m n s ≡ ok (ts, s') → others ts ≡ n
unfolding several others
several_count m zero s s' ts h =
    let a = ran m _ s _ h in
    ap others (sym (is_done (last a.0) ts a.1 s' a.3).0)
several_count m (suc n) s s' ts h =
    let a = ran m _ s _ h in
    let b = ran (several m n) _ a.1 _ a.3 in
    ap others (sym (is_done (more a.0 b.0) ts b.1 s' b.3).0) ∙ ap suc (several_count m n a.1 b.1 b.0 b.2)

-- One inner term is a `several` of one.
one_more : (m : Reads Term) (s s' : Cursor) (t : Term) → m s ≡ ok (t, s') → several m 0 s ≡ ok (last t, s')
unfolding several done
one_more m s s' t h = go_on m _ s s' t _ h refl

only_one : (m : Reads Term) (s s' : Cursor) (t : Term) → several m 0 s ≡ ok (last t, s') → m s ≡ ok (t, s')
unfolding several
only_one m s s' t h =
    let a = ran m _ s _ h in
    let z = is_done (last a.0) (last t) a.1 s' a.3 in
    let e : a.0 ≡ t = cc z.0 in
    a.2 ∙ ap (λ (x : Term). ok (x, a.1)) e ∙ ap (λ (x : Cursor). ok (t, x)) z.1

-- Operands that are as many as the kind has are those that the term takes.
no_value : (vs : List ℕ) → length vs ≡ 0 → [] ≡ vs
no_value [] e = refl
no_value (a ∷ vs) e = absurd (omega arith)

one_value : (vs : List ℕ) → length vs ≡ 1 → get_or vs 0 0 ∷ [] ≡ vs
one_value [] e = absurd (omega arith)
one_value (a ∷ []) e = refl
one_value (a ∷ b ∷ vs) e = absurd (omega arith)

a_place : (vs : List ℕ) → length vs ≡ 2 → place_of (place_at vs 0) ≡ vs
a_place [] e = absurd (omega arith)
a_place (a ∷ vs) e = ap (λ (x : List ℕ). a ∷ x) (one_value vs (omega arith))

two_places : (vs : List ℕ) → length vs ≡ 4 → place_of (place_at vs 0) ++ place_of (place_at vs 2) ≡ vs
two_places [] e = absurd (omega arith)
two_places (a ∷ []) e = absurd (omega arith)
two_places (a ∷ b ∷ vs) e = ap (λ (x : List ℕ). a ∷ b ∷ x) (a_place vs (omega arith))

-- Two inner terms are a `several` of two.
pub two_more : (m : Reads Term) (s s₁ s₂ : Cursor) (t u : Term) → m s ≡ ok (t, s₁) → m s₁ ≡ ok (u, s₂) → several m 1 s ≡ ok (more t (last u), s₂)
unfolding several done
two_more m s s₁ s₂ t u h k = go_on m _ s s₁ t _ h (go_on (several m 0) _ s₁ s₂ (last u) _ (one_more m s₁ s₂ u k) refl)

pub only_two : (m : Reads Term) (s s' : Cursor) (t u : Term) → several m 1 s ≡ ok (more t (last u), s') → (s₁ : Cursor) × (m s ≡ ok (t, s₁)) × (m s₁ ≡ ok (u, s'))
unfolding several
only_two m s s' t u h =
    let a = ran m _ s _ h in
    let b = ran (several m 0) _ a.1 _ a.3 in
    let z = is_done (more a.0 b.0) (more t (last u)) b.1 s' b.3 in
    let e : a.0 ≡ t = cc z.0 in
    let f : b.0 ≡ last u = cc z.0 in
    (a.1, a.2 ∙ ap (λ (x : Term). ok (x, a.1)) e, only_one m a.1 s' u (b.2 ∙ ap (λ (x : Terms). ok (x, b.1)) f ∙ ap (λ (x : Cursor). ok (last u, x)) z.1))

-- A block is its number and its terms.
pub a_block : (t : Term) → kind_in t ≡ k_block → block (branch t).0 (branch t).1 ≡ t
unfolding kind_in branch
a_block (block i ts) h = refl
a_block (number i n) h = let z : ◌≡◌ {A = ℕ} 0 1 = cc in absurd (omega arith)
a_block (reading i n) h = let z : ◌≡◌ {A = ℕ} 0 1 = cc in absurd (omega arith)
a_block (copy i p) h = let z : ◌≡◌ {A = ℕ} 0 1 = cc in absurd (omega arith)
a_block (move i p) h = let z : ◌≡◌ {A = ℕ} 0 1 = cc in absurd (omega arith)
a_block (borrow_shared i p) h = let z : ◌≡◌ {A = ℕ} 0 1 = cc in absurd (omega arith)
a_block (borrow_exclusive i p) h = let z : ◌≡◌ {A = ℕ} 0 1 = cc in absurd (omega arith)
a_block (box i t) h = let z : ◌≡◌ {A = ℕ} 0 1 = cc in absurd (omega arith)
a_block (declare i x t) h = let z : ◌≡◌ {A = ℕ} 0 1 = cc in absurd (omega arith)
a_block (assign i p t) h = let z : ◌≡◌ {A = ℕ} 0 1 = cc in absurd (omega arith)
a_block (below i p q) h = let z : ◌≡◌ {A = ℕ} 0 1 = cc in absurd (omega arith)
a_block (choice i p j us k vs) h = let z : ◌≡◌ {A = ℕ} 0 1 = cc in absurd (omega arith)
a_block (sum i p q) h = let z : ◌≡◌ {A = ℕ} 0 1 = cc in absurd (omega arith)

-- The inner terms of a choice must be blocks.
abbrev pub asks : Kind → Bool
asks k = is k k_choice

pub asked : (t : Term) → asks (kind_in t) ≡ true → AllInside (λ x. kind_in x ≡ k_block) (inside t)
unfolding kind_in inside is byte_of All AllInside
asked (choice i p j us k vs) h = (refl, refl)
asked (number i n) h = absurd (false≢true h)
asked (reading i n) h = absurd (false≢true h)
asked (copy i p) h = absurd (false≢true h)
asked (move i p) h = absurd (false≢true h)
asked (borrow_shared i p) h = absurd (false≢true h)
asked (borrow_exclusive i p) h = absurd (false≢true h)
asked (box i t) h = absurd (false≢true h)
asked (declare i x t) h = absurd (false≢true h)
asked (assign i p t) h = absurd (false≢true h)
asked (below i p q) h = absurd (false≢true h)
asked (block i ts) h = absurd (false≢true h)
asked (sum i p q) h = absurd (false≢true h)

-- What is built of kind, number, operands and inner terms has just these.
pub record Built (k : Kind) (i : ℕ) (vs : List ℕ) (m : Reads Term) (s : Cursor) (t : Term) (s' : Cursor) : Type 0 where
  pub kind : kind_in t ≡ k
  pub number : number_in t ≡ i
  pub values : values t ≡ vs
  pub inner : ReadsInside m (inside t) s s'

module _ (l : Limits) (i : ℕ) (vs : List ℕ) (inner : Bool → Reads Term) (s s' : Cursor) (t : Term) where
  ends : (o : Bool) (k : Kind) (x : Term) (s₁ : Cursor) → kind_in x ≡ k → number_in x ≡ i → values x ≡ vs → ReadsInside (inner o) (inside x) s s₁ → done x s₁ ≡ ok (t, s') → Built k i vs (inner o) s t s'
  ends o k x s₁ a b c r h =
      let z = is_done x t s₁ s' h in
      subst (λ (y : Term). Built k i vs (inner o) s y s') z.0
      (record { kind = a; number = b; values = c; inner = subst (λ (y : Cursor). ReadsInside (inner o) (inside x) s y) z.1 r })

  around : (k : Kind) (f : Term → Term) → ((y : Term) → kind_in (f y) ≡ k) → ((y : Term) → number_in (f y) ≡ i) → ((y : Term) → values (f y) ≡ vs) → ((y : Term) → inside (f y) ≡ some (last y))
      → (inner false >>= λ y. done (f y)) s ≡ ok (t, s') → Built k i vs (inner false) s t s'
  unfolding ReadsInside others
  around k f a b c d h =
      let q = ran (inner false) (λ y. done (f y)) s _ h in
      ends false k (f q.0) q.1 (a q.0) (b q.0) (c q.0)
      (subst (λ (o : Option Terms). ReadsInside (inner false) o s q.1) (sym (d q.0)) (one_more (inner false) s q.1 q.0 q.2)) q.3

  -- What is read where a block must stand is one.
  module _ (blocks : (s s' : Cursor) (t : Term) → inner true s ≡ ok (t, s') → kind_in t ≡ k_block) where
    branches : length vs ≡ 2 → (inner true >>= λ a. inner true >>= λ b. done (choice i (place_at vs 0) (branch a).0 (branch a).1 (branch b).0 (branch b).1)) s ≡ ok (t, s') → Built k_choice i vs (inner true) s t s'
    unfolding kind_in number_in values inside ReadsInside others
    branches n h =
        let a = ran (inner true) _ s _ h in
        let b = ran (inner true) _ a.1 _ a.3 in
        let x = branch a.0 in
        let y = branch b.0 in
        let e = sym (a_block a.0 (blocks s a.1 a.0 a.2)) in
        let f = sym (a_block b.0 (blocks a.1 b.1 b.0 b.2)) in
        ends true k_choice (choice i (place_at vs 0) x.0 x.1 y.0 y.1) b.1 refl refl (a_place vs n)
        (two_more (inner true) s a.1 b.1 (block x.0 x.1) (block y.0 y.1) (a.2 ∙ ap (λ (z : Term). ok (z, a.1)) e) (b.2 ∙ ap (λ (z : Term). ok (z, b.1)) f)) b.3

    by_kind : (k : Kind) → length vs ≡ length (fields l k) → Ranges (fields l k) vs → built k i vs inner s ≡ ok (t, s') → Built k i vs (inner (asks k)) s t s'
    unfolding built fields kind_in number_in values inside ReadsInside others is byte_of
    by_kind k_number n r h = ends false k_number (number i (get_or vs 0 0)) s refl refl (one_value vs n) refl h
    by_kind k_reading n r h = ends false k_reading (reading i (get_or vs 0 0)) s refl refl (one_value vs n) refl h
    by_kind k_copy n r h = ends false k_copy (copy i (place_at vs 0)) s refl refl (a_place vs n) refl h
    by_kind k_move n r h = ends false k_move (move i (place_at vs 0)) s refl refl (a_place vs n) refl h
    by_kind k_shared n r h = ends false k_shared (borrow_shared i (place_at vs 0)) s refl refl (a_place vs n) refl h
    by_kind k_exclusive n r h = ends false k_exclusive (borrow_exclusive i (place_at vs 0)) s refl refl (a_place vs n) refl h
    by_kind k_box n r h = around k_box (box i) (λ y. refl) (λ y. refl) (λ y. no_value vs n) (λ y. refl) h
    by_kind k_let n r h = around k_let (declare i (get_or vs 0 0)) (λ y. refl) (λ y. refl) (λ y. one_value vs n) (λ y. refl) h
    by_kind k_assign n r h = around k_assign (assign i (place_at vs 0)) (λ y. refl) (λ y. refl) (λ y. a_place vs n) (λ y. refl) h
    by_kind k_below n r h = ends false k_below (below i (place_at vs 0) (place_at vs 2)) s refl refl (two_places vs n) refl h
    by_kind k_block n r h =
        let a = ran (several (inner false) (get_or vs 0 0 - 1)) (λ ts. done (block i ts)) s _ h in
        let e : others a.0 ≡ get_or vs 0 0 - 1 = several_count (inner false) (get_or vs 0 0 - 1) s a.1 a.0 a.2 in
        let v = one_value vs n in
        let p : 1 ≤ get_or vs 0 0 = (subst (λ (x : List ℕ). Ranges (until 1 256 ∷ []) x) (sym v) r).0.0 in
        let c : suc (others a.0) ≡ get_or vs 0 0 = omega arith in
        ends false k_block (block i a.0) a.1 refl refl (ap (λ (x : ℕ). x ∷ []) c ∙ v) (ap (λ (x : ℕ). several (inner false) x s) e ∙ a.2) a.3
    by_kind k_choice n r h = branches n h
    by_kind k_sum n r h = ends false k_sum (sum i (place_at vs 0) (place_at vs 2)) s refl refl (two_places vs n) refl h

    pub built_says : (k : Kind) → Ranges (fields l k) vs → built k i vs inner s ≡ ok (t, s') → Built k i vs (inner (asks k)) s t s'
    built_says k r h = by_kind k (as_many (fields l k) vs r) r h

-- A term is built of its own parts.
module _ (inner : Bool → Reads Term) (s s' : Cursor) where
  around_one : (f : Term → Term) (t : Term) → several (inner false) 0 s ≡ ok (last t, s') → (inner false >>= λ x. done (f x)) s ≡ ok (f t, s')
  unfolding done
  around_one f t r = go_on (inner false) _ s s' t _ (only_one (inner false) s s' t r) refl

  pub built_does : (t : Term) → ReadsInside (inner (asks (kind_in t))) (inside t) s s' → built (kind_in t) (number_in t) (values t) inner s ≡ ok (t, s')
  unfolding built done kind_in number_in values inside ReadsInside others is byte_of branch
  built_does (number i n) r = rw r
  built_does (reading i n) r = rw r
  built_does (copy i p) r = rw r
  built_does (move i p) r = rw r
  built_does (borrow_shared i p) r = rw r
  built_does (borrow_exclusive i p) r = rw r
  built_does (box i t) r = around_one (box i) t r
  built_does (declare i x t) r = around_one (declare i x) t r
  built_does (assign i p t) r = around_one (assign i p) t r
  built_does (below i p q) r = rw r
  built_does (block i ts) r =
      let e : suc (others ts) - 1 ≡ others ts = omega arith in
      go_on (several (inner false) (suc (others ts) - 1)) _ s s' ts _ (ap (λ (n : ℕ). several (inner false) n s) e ∙ r) refl
  built_does (choice i p j us k vs) r =
      let a = only_two (inner true) s s' (block j us) (block k vs) r in
      go_on (inner true) _ s a.0 (block j us) _ a.1 (go_on (inner true) _ a.0 s' (block k vs) _ a.2 refl)
  built_does (sum i p q) r = rw r
