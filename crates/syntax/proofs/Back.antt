-- A term within the limits is read from the numbers that it is written as.
use Prim.Native.Nat.{ℕ, zero, suc, ◌+◌, ◌≤◌}
use native.Mathlib.Omega.{arith}
use mathlib.Core.Path.{◌≡◌, refl, sym, ap, ◌∙◌, subst}
use mathlib.Core.Bool.{Bool, true, false, false≢true}
use mathlib.Core.Option.{Option, none, some}
use mathlib.Core.List.{List, ◌++◌, append_assoc}
use Rattle.syntax.specs.Limits.{Limits}
use Rattle.syntax.specs.Script.{Term, Terms, last, more}
use Rattle.syntax.specs.Kinds.{k_block}
use Rattle.syntax.specs.Layout.{Form, others, lay, lays}
use Rattle.syntax.specs.Reader.{Cursor, done, several, built, term}
use Rattle.syntax.specs.Measures.{size, sizes, boxes_in, boxes_all, depth, depths, version_in, versions_in, kind_in}
use Rattle.syntax.specs.Within.{Formed, FormedAll}
use Rattle.syntax.proofs.Answers.{go_on}
use Rattle.syntax.proofs.KindBytes.{has}
use Rattle.syntax.proofs.Parts.{number_in, values, inside, lay_inside, size_inside, boxes_inside, depth_inside, version_inside, FormedInside, head_of, lay_parts, counts, formed_parts, All, AllInside, every, every_of}
use Rattle.syntax.proofs.Building.{ReadsInside, asks, asked, built_does}
use Rattle.syntax.proofs.HeadBack.{Yields, Heads, heads}

-- With e levels left the term is read, and r is left.
abbrev pub Back : Limits → ℕ → Form → ℕ → Bool → Cursor → Term → List ℕ → Type 0
Back l v w e outer s t r = Yields (term l v w e outer) s t r (size t) (boxes_in t)

abbrev BackEach : Limits → ℕ → Form → ℕ → Bool → Cursor → Terms → List ℕ → Type 0
BackEach l v w e ask s ts r = Yields (several (term l v w e ask) (others ts)) s ts r (sizes ts) (boxes_all ts)

abbrev pub BackAll : Limits → ℕ → Form → ℕ → Cursor → Terms → List ℕ → Type 0
BackAll l v w e s ts r = BackEach l v w e false s ts r

module _ (l : Limits) (v : ℕ) (w : Form) where
  abbrev Reading : Term → Type 0
  Reading t = (e : ℕ) (outer : Bool) (s : Cursor) (r : List ℕ) → Formed l s.terms t → depth t ≤ e → s.terms + size t ≤ l.terms → s.boxes + boxes_in t ≤ l.boxes
      → version_in t ≤ v → (outer ≡ true → kind_in t ≡ k_block) → s.rest ≡ lay w t ++ r → Back l v w e outer s t r

  abbrev IsBlock : Term → Type 0
  IsBlock t = kind_in t ≡ k_block

  one_back : (t : Term) (e : ℕ) (ask : Bool) (s : Cursor) (r : List ℕ) → Back l v w e ask s t r → BackEach l v w e ask s (last t) r
  unfolding sizes boxes_all others several done
  one_back t e ask s r a = record { to = a.to; eq = go_on (term l v w e ask) _ s a.to t _ a.eq refl; rest = a.rest; terms = a.terms; boxes = a.boxes }

  more_back : (t : Term) (ts : Terms) (e : ℕ) (ask : Bool) (s : Cursor) (q r : List ℕ) (a : Back l v w e ask s t q) → BackEach l v w e ask a.to ts r → BackEach l v w e ask s (more t ts) r
  unfolding sizes boxes_all others several done
  more_back t ts e ask s q r a b = record {
    to = b.to;
    eq = go_on (term l v w e ask) _ s a.to t _ a.eq (go_on (several (term l v w e ask) (others ts)) _ a.to b.to ts _ b.eq refl);
    rest = b.rest;
    terms = omega (arith, a.terms, b.terms);
    boxes = omega (arith, a.boxes, b.boxes);
  }

  all_back : (ts : Terms) → All Reading ts → (e : ℕ) (ask : Bool) (s : Cursor) (r : List ℕ) → FormedAll l s.terms ts → depths ts ≤ e → s.terms + sizes ts ≤ l.terms → s.boxes + boxes_all ts ≤ l.boxes
      → versions_in ts ≤ v → (ask ≡ true → All IsBlock ts) → s.rest ≡ lays w ts ++ r → BackEach l v w e ask s ts r
  unfolding All FormedAll depths sizes boxes_all versions_in lays
  all_back (last t) ih e ask s r f dp tm bx vr o h = one_back t e ask s r (ih e ask s r f dp tm bx vr o h)
  all_back (more t ts) ih e ask s r f dp tm bx vr o h =
      let q = lays w ts ++ r in
      let a = ih.0 e ask s q f.0 (omega arith) (omega arith) (omega arith) (omega arith) (λ z. (o z).0) (h ∙ append_assoc (lay w t) (lays w ts) r) in
      more_back t ts e ask s q r a
      (all_back ts ih.1 e ask a.to r (subst (λ (j : ℕ). FormedAll l j ts) (sym a.terms) f.1) (omega arith) (omega (arith, a.terms)) (omega (arith, a.boxes)) (omega arith) (λ z. (o z).1) a.rest)

  record Inner (e : ℕ) (ask : Bool) (o : Option Terms) (s : Cursor) (r : List ℕ) : Type 0 where
    pub to : Cursor
    pub reads : ReadsInside (term l v w e ask) o s to
    pub rest : to.rest ≡ r
    pub terms : to.terms ≡ s.terms + size_inside o
    pub boxes : to.boxes ≡ s.boxes + boxes_inside o

  inner_back : (o : Option Terms) → AllInside Reading o → (e : ℕ) (ask : Bool) (s : Cursor) (r : List ℕ) → FormedInside l s.terms o → depth_inside o ≤ e → s.terms + size_inside o ≤ l.terms
      → s.boxes + boxes_inside o ≤ l.boxes → version_inside o ≤ v → (ask ≡ true → AllInside IsBlock o) → s.rest ≡ lay_inside w o ++ r → Inner e ask o s r
  unfolding AllInside FormedInside depth_inside size_inside boxes_inside version_inside lay_inside ReadsInside
  inner_back none ih e ask s r f dp tm bx vr b h = record { to = s; reads = refl; rest = h; terms = omega arith; boxes = omega arith }
  inner_back (some ts) ih e ask s r f dp tm bx vr b h =
      let a = all_back ts ih e ask s r f dp tm bx vr b h in
      record { to = a.to; reads = a.eq; rest = a.rest; terms = a.terms; boxes = a.boxes }

  whole_back : (t : Term) (e : ℕ) (outer : Bool) (s : Cursor) (q r : List ℕ) → number_in t ≡ s.terms → (a : Heads l v w e outer s (kind_in t) (values t) q) → Inner e (asks (kind_in t)) (inside t) a.to r
      → Back l v w (suc e) outer s t r
  whole_back t e outer s q r n a b = record {
    to = b.to;
    eq = a.eq ∙ ap (λ (i : ℕ). built (kind_in t) i (values t) (term l v w e) a.to) (sym n) ∙ built_does (term l v w e) a.to b.to t b.reads;
    rest = b.rest;
    terms = omega (arith, a.terms, b.terms, (counts t).terms);
    boxes = omega (arith, a.boxes, b.boxes, (counts t).boxes);
  }

  step : (t : Term) → AllInside Reading (inside t) → Reading t
  step t ih zero outer s r f dp tm bx vr o h = absurd (omega (arith, (counts t).levels))
  step t ih (suc e) outer s r f dp tm bx vr o h =
      let xs = lay_inside w (inside t) in
      let c = counts t in
      let p = formed_parts l s.terms t f in
      let a = heads l v w e outer s (kind_in t) (values t) (xs ++ r) (has v (kind_in t) (omega (arith, c.versions))) o p.ranges (omega (arith, c.terms)) (omega (arith, c.boxes))
      (h ∙ ap (λ (x : List ℕ). x ++ r) (lay_parts l w t) ∙ append_assoc (head_of l w t) xs r) in
      whole_back t e outer s (xs ++ r) r p.number a
      (inner_back (inside t) ih e (asks (kind_in t)) a.to r (subst (λ (i : ℕ). FormedInside l i (inside t)) (sym a.terms) p.inner) (omega (arith, c.levels))
      (omega (arith, a.terms, c.terms)) (omega (arith, a.boxes, c.boxes)) (omega (arith, c.versions)) (asked t) a.rest)

  pub back : (t : Term) (e : ℕ) (outer : Bool) (s : Cursor) (r : List ℕ) → Formed l s.terms t → depth t ≤ e → s.terms + size t ≤ l.terms → s.boxes + boxes_in t ≤ l.boxes
      → version_in t ≤ v → (outer ≡ true → kind_in t ≡ k_block) → s.rest ≡ lay w t ++ r → Back l v w e outer s t r
  back = every Reading step

  pub backs : (ts : Terms) (e : ℕ) (s : Cursor) (r : List ℕ) → FormedAll l s.terms ts → depths ts ≤ e → s.terms + sizes ts ≤ l.terms → s.boxes + boxes_all ts ≤ l.boxes
      → versions_in ts ≤ v → s.rest ≡ lays w ts ++ r → BackAll l v w e s ts r
  backs ts e s r f dp tm bx vr h = all_back ts (every_of Reading step ts) e false s r f dp tm bx vr (λ z. absurd (false≢true z)) h
