-- A term that is read stands in the bytes or rows just as it is written there, and is within the limits.
use Prim.Native.Nat.{ℕ, zero, suc, ◌+◌, ◌≤◌}
use native.Mathlib.Omega.{arith}
use mathlib.Core.Path.{◌≡◌, refl, sym, ap, ◌∙◌, subst}
use mathlib.Core.Bool.{Bool, true, false}
use mathlib.Core.Option.{Option, none, some}
use mathlib.Core.List.{List, ◌++◌, append_assoc}
use lib.ListN.{length, length-append}
use lib.Dec.{leb}
use Rattle.syntax.specs.Result.{ok}
use Rattle.syntax.specs.Limits.{Limits}
use Rattle.syntax.specs.Script.{Term, Terms, block, last, more}
use Rattle.syntax.specs.Kinds.{Kind, k_block, Field, fields}
use Rattle.syntax.specs.Layout.{Form, others, lay, lays}
use Rattle.syntax.specs.Reader.{Cursor, Reads, ◌>>=◌, expect, operands, rest_of_row, boxes_of, several, built, term}
use Rattle.syntax.specs.Measures.{size, sizes, boxes_in, boxes_all, depth, depths, version_in, versions_in, kind_in}
use Rattle.syntax.specs.Within.{Formed, FormedAll, Under}
use Rattle.syntax.proofs.Answers.{err_ok, ran, is_done}
use Rattle.syntax.proofs.KindBytes.{has_added}
use Rattle.syntax.proofs.OperandLaws.{cap}
use Rattle.syntax.proofs.Parts.{number_in, values, inside, lay_inside, size_inside, boxes_inside, depth_inside, version_inside, FormedInside, head_of, lay_parts, counts, parts_formed}
use Rattle.syntax.proofs.Building.{ReadsInside, asks, built_says, several_count}
use Rattle.syntax.proofs.HeadSound.{Opened, opening_says, head_says}

-- Between s and s' stand the numbers xs: n terms with b boxes and e levels, of kinds that version g has, of which F says that they are formed. At most d levels were left.
pub record Spans (l : Limits) (v : ℕ) (w : Form) (d : ℕ) (s : Cursor) (xs : List ℕ) (n b e g : ℕ) (F : Type 0) (s' : Cursor) : Type 0 where
  pub rest : s.rest ≡ xs ++ s'.rest
  pub at : s'.at ≡ s.at + length xs
  pub terms : s'.terms ≡ s.terms + n
  pub boxes : s'.boxes ≡ s.boxes + b
  pub fits : s'.terms ≤ l.terms
  pub few : s'.boxes ≤ l.boxes
  pub deep : e ≤ d
  pub kinds : g ≤ v
  pub formed : F
  pub under : Under (cap w) s'.rest

abbrev pub Read : Limits → ℕ → Form → ℕ → Cursor → Term → Cursor → Type 0
Read l v w d s t s' = Spans l v w d s (lay w t) (size t) (boxes_in t) (depth t) (version_in t) (Formed l s.terms t) s'

abbrev pub ReadAll : Limits → ℕ → Form → ℕ → Cursor → Terms → Cursor → Type 0
ReadAll l v w d s ts s' = Spans l v w d s (lays w ts) (sizes ts) (boxes_all ts) (depths ts) (versions_in ts) (FormedAll l s.terms ts) s'

abbrev ReadIn : Limits → ℕ → Form → ℕ → Cursor → Option Terms → Cursor → Type 0
ReadIn l v w d s o s' = Spans l v w d s (lay_inside w o) (size_inside o) (boxes_inside o) (depth_inside o) (version_inside o) (FormedInside l s.terms o) s'

no_term : (l : Limits) (v : ℕ) (w : Form) (outer : Bool) (s s' : Cursor) (t : Term) {A : Type 0} → term l v w zero outer s ≡ ok (t, s') → A
unfolding term
no_term l v w outer s s' t h = err_ok (ran _ _ s _ h).3

-- The last steps of a head, and what comes after it.
row_ran : {A : Type 0} (w : Form) (fs : List Field) (f : List ℕ → Reads A) (s : Cursor) (r : A × Cursor) → (operands w fs >>= λ vs. rest_of_row w (length vs) >>= λ u. f vs) s ≡ ok r
    → (vs : List ℕ) × (s₄ : Cursor) × (u : Unit {0}) × (s₅ : Cursor) × (operands w fs s ≡ ok (vs, s₄)) × (rest_of_row w (length vs) s₄ ≡ ok (u, s₅)) × (f vs s₅ ≡ ok r)
row_ran w fs f s r h =
    let a = ran (operands w fs) _ s r h in
    let b = ran (rest_of_row w (length a.0)) _ a.1 r a.3 in
    (a.0, a.1, b.0, b.1, a.2, b.2, b.3)

-- What is read where a block must stand is one.
block_built : (i : ℕ) (vs : List ℕ) (inner : Bool → Reads Term) (s s' : Cursor) (t : Term) → built k_block i vs inner s ≡ ok (t, s') → kind_in t ≡ k_block
unfolding built kind_in
block_built i vs inner s s' t h = let a = ran _ _ s _ h in sym (ap kind_in (is_done (block i a.0) t a.1 s' a.3).0)

pub block_read : (l : Limits) (v : ℕ) (w : Form) (d : ℕ) (s s' : Cursor) (t : Term) → term l v w d true s ≡ ok (t, s') → kind_in t ≡ k_block
unfolding term
block_read l v w zero s s' t h = err_ok (ran _ _ s _ h).3
block_read l v w (suc d) s s' t h =
    let a = ran _ _ s _ h in
    let b = ran _ _ a.1 _ a.3 in
    let c = ran _ _ b.1 _ b.3 in
    let e = ran _ _ c.1 _ c.3 in
    let f = row_ran w (fields l a.0) (λ vs. built a.0 c.0 vs (term l v w d)) e.1 (t, s') e.3 in
    let k : a.0 ≡ k_block = (opening_says l v w true s a.1 a.0 a.2).1.block refl in
    block_built c.0 f.0 (term l v w d) f.3 s' t (subst (λ (x : Kind). built x c.0 f.0 (term l v w d) f.3 ≡ ok (t, s')) k f.6)

term_says : (l : Limits) (v : ℕ) (w : Form) (d : ℕ) (outer : Bool) (s s' : Cursor) (t : Term) → Under (cap w) s.rest → term l v w (suc d) outer s ≡ ok (t, s')
    → (k : Kind) × (vs : List ℕ) × (s₂ : Cursor) × Opened l v w outer s k vs s₂ × (built k s.terms vs (term l v w d) s₂ ≡ ok (t, s'))
unfolding term
term_says l v w d outer s s' t n h =
    let a = ran _ _ s _ h in
    let b = ran _ _ a.1 _ a.3 in
    let c = ran _ _ b.1 _ b.3 in
    let e = ran _ _ c.1 _ c.3 in
    let f = row_ran w (fields l a.0) (λ vs. built a.0 c.0 vs (term l v w d)) e.1 (t, s') e.3 in
    let o = opening_says l v w outer s a.1 a.0 a.2 in
    let z = head_says l v w outer a.0 s b.1 c.1 e.1 f.1 f.3 b.0 e.0 f.2 c.0 f.0 n o.1
    (ap (expect w (λ s. leb (s.boxes + boxes_of a.0) l.boxes) 17) o.0 ∙ b.2) c.2 e.2 f.4 f.5 in
    (a.0, f.0, f.3, z.1, subst (λ (i : ℕ). built a.0 i f.0 (term l v w d) f.3 ≡ ok (t, s')) (sym z.0) f.6)

-- Of any reader of which the theorem holds at d levels.
module _ (l : Limits) (v : ℕ) (w : Form) (d : ℕ) where
  module _ (m : Reads Term) (ih : (s s' : Cursor) (t : Term) → Under (cap w) s.rest → m s ≡ ok (t, s') → Read l v w d s t s') where
    pub several_say : (n : ℕ) (s s' : Cursor) (ts : Terms) → Under (cap w) s.rest → several m n s ≡ ok (ts, s') → ReadAll l v w d s ts s'
    unfolding several lays sizes boxes_all depths versions_in FormedAll
    several_say zero s s' ts u h =
        let a = ran _ _ s _ h in
        let z = is_done (last a.0) ts a.1 s' a.3 in
        subst (λ (k : Terms). ReadAll l v w d s k s') z.0
        (subst (λ (k : Cursor). Read l v w d s a.0 k) z.1 (ih s a.1 a.0 u a.2))
    several_say (suc n) s s' ts u h =
        let a = ran _ _ s _ h in
        let b = ran _ _ a.1 _ a.3 in
        let r = ih s a.1 a.0 u a.2 in
        let q = several_say n a.1 b.1 b.0 r.under b.2 in
        let z = is_done (more a.0 b.0) ts b.1 s' b.3 in
        subst (λ (k : Terms). ReadAll l v w d s k s') z.0
        (subst (λ (k : Cursor). ReadAll l v w d s (more a.0 b.0) k) z.1 (joined s a.1 b.1 a.0 b.0 r q))
      where
        joined : (s s₁ s₂ : Cursor) (t : Term) (ts : Terms) → Read l v w d s t s₁ → ReadAll l v w d s₁ ts s₂ → ReadAll l v w d s (more t ts) s₂
        joined s s₁ s₂ t ts r q = record {
          rest = r.rest ∙ ap (λ (k : List ℕ). lay w t ++ k) q.rest ∙ sym (append_assoc (lay w t) (lays w ts) s₂.rest);
          at = omega (arith, r.at, q.at, length-append (lay w t) (lays w ts));
          terms = omega (arith, r.terms, q.terms);
          boxes = omega (arith, r.boxes, q.boxes);
          fits = q.fits;
          few = q.few;
          deep = omega (arith, r.deep, q.deep);
          kinds = omega (arith, r.kinds, q.kinds);
          formed = (r.formed, subst (λ (k : ℕ). FormedAll l k ts) r.terms q.formed);
          under = q.under;
        }

    inside_says : (o : Option Terms) (s s' : Cursor) → s.terms ≤ l.terms → s.boxes ≤ l.boxes → Under (cap w) s.rest → ReadsInside m o s s' → ReadIn l v w d s o s'
    unfolding ReadsInside lay_inside size_inside boxes_inside depth_inside version_inside FormedInside
    inside_says none s s' a b u h =
        subst (λ (k : Cursor). ReadIn l v w d s none k) h
        (record { rest = refl; at = omega arith; terms = omega arith; boxes = omega arith; fits = a; few = b; deep = omega arith; kinds = omega arith; formed = tt; under = u })
    inside_says (some ts) s s' a b u h = several_say (others ts) s s' ts u h

  -- A head and what is inside are a term.
  whole : (outer : Bool) (s s₂ s' : Cursor) (t : Term) → Opened l v w outer s (kind_in t) (values t) s₂ → number_in t ≡ s.terms → ReadIn l v w d s₂ (inside t) s' → Read l v w (suc d) s t s'
  whole outer s s₂ s' t o n r =
      let xs = lay_inside w (inside t) in
      let e = lay_parts l w t in
      let c = counts t in
      record {
        rest = o.rest ∙ ap (λ (y : List ℕ). head_of l w t ++ y) r.rest ∙ sym (append_assoc (head_of l w t) xs s'.rest) ∙ ap (λ (y : List ℕ). y ++ s'.rest) (sym e);
        at = omega (arith, o.at, r.at, ap length e, length-append (head_of l w t) xs);
        terms = omega (arith, o.terms, r.terms, c.terms);
        boxes = omega (arith, o.boxes, r.boxes, c.boxes);
        fits = r.fits;
        few = r.few;
        deep = omega (arith, r.deep, c.levels);
        kinds = omega (arith, r.kinds, c.versions, has_added v (kind_in t) o.has);
        formed = parts_formed l s.terms t (record { number = n; ranges = o.ranges; inner = subst (λ (i : ℕ). FormedInside l i (inside t)) o.terms r.formed });
        under = r.under;
      }

  -- `inner` is a reader of the inner terms, told whether they must be blocks.
  module _ (inner : Bool → Reads Term) (ih : (outer : Bool) (s s' : Cursor) (t : Term) → Under (cap w) s.rest → inner outer s ≡ ok (t, s') → Read l v w d s t s' × (outer ≡ true → kind_in t ≡ k_block)) (blocks : (s s' : Cursor) (t : Term) → inner true s ≡ ok (t, s') → kind_in t ≡ k_block) where
    term_sound : (outer : Bool) (k : Kind) (vs : List ℕ) (s s₂ s' : Cursor) (t : Term) → Opened l v w outer s k vs s₂ → built k s.terms vs inner s₂ ≡ ok (t, s')
        → Read l v w (suc d) s t s' × (outer ≡ true → kind_in t ≡ k_block)
    term_sound outer k vs s s₂ s' t o h =
        let b = built_says l s.terms vs inner s₂ s' t blocks k o.ranges h in
        let o' : Opened l v w outer s (kind_in t) (values t) s₂ = subst (λ (x : Kind). Opened l v w outer s x (values t) s₂) (sym b.kind) (subst (λ (x : List ℕ). Opened l v w outer s k x s₂) (sym b.values) o) in
        (whole outer s s₂ s' t o' b.number (inside_says (inner (asks k)) (λ s s' t u h. (ih (asks k) s s' t u h).0) (inside t) s₂ s' o.fits o.few o.under b.inner), λ e. b.kind ∙ o.block e)

pub sound : (l : Limits) (v : ℕ) (w : Form) (d : ℕ) (outer : Bool) (s s' : Cursor) (t : Term) → Under (cap w) s.rest → term l v w d outer s ≡ ok (t, s')
    → Read l v w d s t s' × (outer ≡ true → kind_in t ≡ k_block)
sound l v w zero outer s s' t u h = no_term l v w outer s s' t h
sound l v w (suc d) outer s s' t u h =
    let a = term_says l v w d outer s s' t u h in
    term_sound l v w d (term l v w d) (sound l v w d) (block_read l v w d) outer a.0 a.1 s a.2 s' t a.3 a.4

-- The terms of a block, n after the first.
pub sounds : (l : Limits) (v : ℕ) (w : Form) (d n : ℕ) (s s' : Cursor) (ts : Terms) → Under (cap w) s.rest → several (term l v w d false) n s ≡ ok (ts, s')
    → ReadAll l v w d s ts s' × (others ts ≡ n)
sounds l v w d n s s' ts u h =
    (several_say l v w d (term l v w d false) (λ s s' t u h. (sound l v w d false s s' t u h).0) n s s' ts u h, several_count (term l v w d false) n s s' ts h)
