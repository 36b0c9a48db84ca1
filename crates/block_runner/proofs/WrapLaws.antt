-- Terms around an inner term, which stands in the next row: the way inwards, and what follows the innermost term, outwards.
use Prim.Native.Nat.{ℕ, zero, suc, ◌+◌, ◌-◌, ◌≤◌, ◌<◌}
use native.Mathlib.Omega.{arith}
use native.Mathlib.Decide.{ℕ_discrete}
use mathlib.Core.Path.{◌≡◌, refl, sym, ap, subst, ◌∙◌}
use mathlib.Core.Logic.{⊎_elim}
use mathlib.Core.Bool.{true, false}
use mathlib.Core.List.{List}
use lib.IntN.{ℤ}
use lib.ListN.{length}
use Rattle.std.specs.Prelude.{Ok, Err}
use Rattle.syntax.specs.Limits.{Limits}
use Rattle.syntax.specs.Parts.{IsKind}
use Rattle.syntax.specs.declared.kinds.Kind as code
use Rattle.syntax.specs.declared.kinds.Kind.TheVariants as kind
use Rattle.syntax.specs.KindNumbers.{number_in}
use Rattle.syntax.specs.declared.refusals.Refusal.{Refusal}
use Rattle.syntax.specs.Kinds.{Kind, newest, kind_of, wraps_of}
use Rattle.syntax.specs.RowTrees.{IsTree, kind_at, tree_at}
use mathlib.Core.Option.{Option, none, some}
use Rattle.syntax.specs.RowParts.{field_at}
use Rattle.syntax.specs.Result.{pick}
use lib.Dec.{eqb}
use Rattle.syntax.proofs.KindBytes.{wrapping, not_wrapping, found}
use Rattle.term_runner.proofs.RowLaws.{kind_byte}
use Rattle.syntax.proofs.RowTreeLaws.{tree_kind, has_level, has_room, assign_root}
use Rattle.term_runner.specs.LeafParts.{LeafReady}
use Rattle.term_runner.specs.Parts.{Stands, PlainRan, Boxed, Declared, Assigned, AfterReady, AfterRan, TermReady, TermRan}
use Rattle.term_runner.specs.declared.around.Standing.{Standing}
use Rattle.block_runner.proofs.TermLaws.{box_ready, box_stops, box_filling, box_returns, let_ready, let_stops, let_opening, let_returns, assign_ready, assign_stops, assigning, assign_returns, leaf_ready, leaf_returns, term_room}

kind_of_number : ℕ → code.Kind
kind_of_number n = pick (eqb n 1) kind.Number (pick (eqb n 2) kind.Reading (pick (eqb n 3) kind.Copy (pick (eqb n 4) kind.Move (pick (eqb n 5) kind.Shared (pick (eqb n 6) kind.Exclusive (pick (eqb n 7) kind.Box (pick (eqb n 8) kind.Let (pick (eqb n 9) kind.Assign (pick (eqb n 10) kind.Below (pick (eqb n 11) kind.Block (pick (eqb n 12) kind.Choice kind.Sum)))))))))))

kind_back : (k : code.Kind) → kind_of_number (number_in k) ≡ k
unfolding kind_of_number
kind_back kind.Number = refl
kind_back kind.Reading = refl
kind_back kind.Copy = refl
kind_back kind.Move = refl
kind_back kind.Shared = refl
kind_back kind.Exclusive = refl
kind_back kind.Box = refl
kind_back kind.Let = refl
kind_back kind.Assign = refl
kind_back kind.Below = refl
kind_back kind.Block = refl
kind_back kind.Choice = refl
kind_back kind.Sum = refl

-- No two kinds have one number.
number_back : (k j : code.Kind) → number_in k ≡ number_in j → k ≡ j
number_back k j e = sym (kind_back k) ∙ ap kind_of_number e ∙ kind_back j

-- A kind is known where a term stands.
pub tree_known : (n l : ℕ) (rows : List ℕ) (i : ℕ) → IsTree (tree_at n l rows i) → (IsKind (field_at rows i 0) → ⊥) → ⊥
unfolding kind_at
tree_known n l rows i t h = go (kind_of newest (field_at rows i 0)) refl
  where
    go : (o : Option Kind) → kind_of newest (field_at rows i 0) ≡ o → ⊥
    go none e = subst IsTree (tree_kind n l rows i none t e) t
    go (some k) e = h (subst IsKind (found newest (field_at rows i 0) k e) (kind_byte k))

-- A kind is known where a term is around another, and it is one of the three.
pub wraps_known : (rows : List ℕ) (i : ℕ) → wraps_of (field_at rows i 0) ≡ true → (IsKind (field_at rows i 0) → ⊥) → ⊥
wraps_known rows i h n = ⊎_elim (λ e. n (omega arith)) (λ m. ⊎_elim (λ e. n (omega arith)) (λ e. n (omega arith)) m) (wrapping (field_at rows i 0) h)

pub wraps_only : (rows : List ℕ) (i : ℕ) (k : code.Kind) → number_in k ≡ field_at rows i 0 → wraps_of (field_at rows i 0) ≡ true → (k ≡ kind.Box → ⊥) → (k ≡ kind.Let → ⊥) → (k ≡ kind.Assign → ⊥) → ⊥
wraps_only rows i k e h a b c =
    ⊎_elim (λ z. a (number_back k kind.Box (e ∙ z))) (λ m. ⊎_elim (λ z. b (number_back k kind.Let (e ∙ z))) (λ z. c (number_back k kind.Assign (e ∙ z))) m) (wrapping (field_at rows i 0) h)

module _ (set : Limits) where
  -- ---- what follows the inner term

  module _ (rows : List ℕ) (i : ℕ) (w opened : List ℕ) (inner : Standing) (w' : List ℕ) (r : Stands) (k : code.Kind) (ek : number_in k ≡ field_at rows i 0) where
    pub after_box : k ≡ kind.Box → Boxed set w inner w' r → AfterRan set rows i w opened inner w' opened r
    after_box e b = let z : field_at rows i 0 ≡ 7 = sym ek ∙ ap number_in e in record { box = λ y. (b, refl); bind = λ y. absurd (omega arith); assign = λ y. absurd (omega arith) }

    pub after_let : (opened' : List ℕ) → k ≡ kind.Let → Declared set w opened i (field_at rows i 1) inner w' opened' r → AfterRan set rows i w opened inner w' opened' r
    after_let opened' e b = let z : field_at rows i 0 ≡ 8 = sym ek ∙ ap number_in e in record { box = λ y. absurd (omega arith); bind = λ y. b; assign = λ y. absurd (omega arith) }

    pub after_assign : (root follows : ℕ) → (root ≡ field_at rows i 1) × (follows ≡ field_at rows i 2) → k ≡ kind.Assign → Assigned set w i root follows inner w' r → AfterRan set rows i w opened inner w' opened r
    after_assign root follows p e b =
        let z : field_at rows i 0 ≡ 9 = sym ek ∙ ap number_in e in
        record { box = λ y. absurd (omega arith); bind = λ y. absurd (omega arith); assign = λ y. (rw (← p.0, ← p.1) b, refl) }

  -- ---- a term around another

  module _ (rows : List ℕ) (i levels : ℕ) (readings : List ℤ) (w opened : List ℕ) (n taken : ℕ) (g : TermReady set rows i levels readings w opened n taken)
      (h : wraps_of (field_at rows i 0) ≡ true) where
    by_kind : (X : Type 0) → (field_at rows i 0 ≡ 7 → X) → (field_at rows i 0 ≡ 8 → X) → (field_at rows i 0 ≡ 9 → X) → X
    by_kind X a b c = ⊎_elim a (λ m. ⊎_elim b c m) (wrapping (field_at rows i 0) h)

    wrapped_ready : TermReady set rows (i + 1) (levels - 1) readings w opened n taken
    wrapped_ready = by_kind _ (box_ready set rows i levels readings w opened n taken g) (let_ready set rows i levels readings w opened n taken g) (assign_ready set rows i levels readings w opened n taken g)

    -- A fault of the inner term goes onwards.
    wrapped_stops : (w₁ opened₁ : List ℕ) (x : Refusal) → TermRan set rows (i + 1) (levels - 1) readings w opened n taken w₁ opened₁ (Err x) → TermRan set rows i levels readings w opened n taken w₁ opened₁ (Err x)
    wrapped_stops w₁ opened₁ x t = by_kind _
        (λ e. box_stops set rows i levels readings w opened n taken g e w₁ opened₁ x t)
        (λ e. let_stops set rows i levels readings w opened n taken g e w₁ opened₁ x t)
        (λ e. assign_stops set rows i levels readings w opened n taken g e w₁ opened₁ x t)

    module _ (w₁ opened₁ : List ℕ) (inner : Standing) (t : TermRan set rows (i + 1) (levels - 1) readings w opened n taken w₁ opened₁ (Ok inner)) (long : length opened₁ ≡ length opened) where
      wrapped_after : AfterReady set rows i w₁ opened₁ inner
      wrapped_after = record {
        room = has_room set.variables levels rows i g.is;
        wraps = h;
        box = λ e. box_filling set rows i levels readings w opened n taken g e w₁ opened₁ inner t;
        bind = λ e. let_opening set rows i levels readings w opened n taken g e w₁ opened₁ inner t long;
        assign = λ e. (assigning set rows i levels readings w opened n taken g e w₁ opened₁ inner t, assign_root set.variables levels rows i g.is e);
      }

      wrapped_returns : (w₂ opened₂ : List ℕ) (r : Stands) → AfterRan set rows i w₁ opened₁ inner w₂ opened₂ r → TermRan set rows i levels readings w opened n taken w₂ opened₂ r
      wrapped_returns w₂ opened₂ r a = by_kind _
          (λ e. subst (λ (o : List ℕ). TermRan set rows i levels readings w opened n taken w₂ o r) (sym (a.box e).1) (box_returns set rows i levels readings w opened n taken g e w₁ opened₁ inner t w₂ r (a.box e).0))
          (λ e. let_returns set rows i levels readings w opened n taken g e w₁ opened₁ inner t long w₂ opened₂ r (a.bind e))
          (λ e. subst (λ (o : List ℕ). TermRan set rows i levels readings w opened n taken w₂ o r) (sym (a.assign e).1) (assign_returns set rows i levels readings w opened n taken g e w₁ opened₁ inner t w₂ r (a.assign e).0))

  -- ---- the innermost term, if it has no inner term

  module _ (rows : List ℕ) (i levels : ℕ) (readings : List ℤ) (w opened : List ℕ) (n taken : ℕ) (g : TermReady set rows i levels readings w opened n taken)
      (h : wraps_of (field_at rows i 0) ≡ false) (k : code.Kind) (ek : number_in k ≡ field_at rows i 0) (d : k ≡ kind.Block → ⊥) (c : k ≡ kind.Choice → ⊥) where
    no_block : number_in k ≡ 11 → ⊥
    no_block e = d (number_back k kind.Block e)

    no_choice : number_in k ≡ 12 → ⊥
    no_choice e = c (number_back k kind.Choice e)

    pub inmost_ready : LeafReady set rows i readings w
    inmost_ready = leaf_ready set rows i levels readings w opened n taken g (number_in k) ek (not_wrapping ek h) no_block no_choice

    pub inmost_returns : (w₁ : List ℕ) (r : Stands) → PlainRan set rows i readings w n taken w₁ r → TermRan set rows i levels readings w opened n taken w₁ opened r
    inmost_returns w₁ r x = leaf_returns set rows i levels readings w opened n taken g (number_in k) ek (not_wrapping ek h) no_block no_choice w₁ r x

  -- ---- the two loops

  -- The way inwards: `around` terms from row i on stand each around the next.
  pub record Inwards (rows : List ℕ) (i levels : ℕ) (readings : List ℤ) (w opened : List ℕ) (n taken around : ℕ) : Type 0 where
    pub ready : (k : ℕ) → k ≤ around → TermReady set rows (i + k) (levels - k) readings w opened n taken
    pub wraps : (k : ℕ) → k < around → wraps_of (field_at rows (i + k) 0) ≡ true

  -- The way outwards: from where the innermost term left off, with all but `around` of the terms around it run.
  pub record Outwards (rows : List ℕ) (i levels : ℕ) (readings : List ℤ) (n taken : ℕ) (w₁ opened₁ : List ℕ) (around₁ : ℕ) (r₁ : Standing) (w opened : List ℕ) (around : ℕ) (r : Standing) : Type 0 where
    pub some : around ≤ around₁
    pub same : length opened ≡ length opened₁
    pub ran : (w₀ opened₀ : List ℕ) → length opened₁ ≡ length opened₀ → Inwards rows i levels readings w₀ opened₀ n taken around₁ → TermRan set rows (i + around₁) (levels - around₁) readings w₀ opened₀ n taken w₁ opened₁ (Ok r₁) → TermRan set rows (i + around) (levels - around) readings w₀ opened₀ n taken w opened (Ok r)

  module _ (rows : List ℕ) (readings : List ℤ) (w opened : List ℕ) (n taken : ℕ) where
    moved_ready : (j l j' l' : ℕ) → j ≡ j' → l ≡ l' → TermReady set rows j l readings w opened n taken → TermReady set rows j' l' readings w opened n taken
    moved_ready j l j' l' p q t = rw (← p, ← q) t

    moved_ran : (j l j' l' : ℕ) (w₁ opened₁ : List ℕ) (r : Stands) → j ≡ j' → l ≡ l' → TermRan set rows j l readings w opened n taken w₁ opened₁ r → TermRan set rows j' l' readings w opened n taken w₁ opened₁ r
    moved_ran j l j' l' w₁ opened₁ r p q t = rw (← p, ← q) t

  module _ (rows : List ℕ) (i levels : ℕ) (readings : List ℤ) (w opened : List ℕ) (n taken : ℕ) where
    pub inwards_starts : TermReady set rows i levels readings w opened n taken → Inwards rows i levels readings w opened n taken 0
    inwards_starts g = record {
      ready = λ k h. moved_ready rows readings w opened n taken i levels (i + k) (levels - k) (omega arith) (omega arith) g;
      wraps = λ k h. absurd (omega arith);
    }

    module _ (around : ℕ) (g : Inwards rows i levels readings w opened n taken around) where
      pub inwards_here : TermReady set rows (i + around) (levels - around) readings w opened n taken
      inwards_here = g.ready around (omega arith)

      pub inwards_room : i + around + 1 ≤ set.terms
      inwards_room = term_room set rows (i + around) (levels - around) readings w opened n taken inwards_here

      pub inwards_level : around < levels
      inwards_level = let a = has_level set.variables (levels - around) rows (i + around) inwards_here.is in omega arith

      pub inwards_goes : wraps_of (field_at rows (i + around) 0) ≡ true → Inwards rows i levels readings w opened n taken (around + 1)
      inwards_goes h = record {
        ready = λ k b. here k b (ℕ_discrete k (around + 1));
        wraps = λ k b. there k b (ℕ_discrete k around);
      }
        where
          here : (k : ℕ) → k ≤ around + 1 → Dec (k ≡ around + 1) → TermReady set rows (i + k) (levels - k) readings w opened n taken
          here k b (yes e) = moved_ready rows readings w opened n taken (i + around + 1) (levels - around - 1) (i + k) (levels - k) (omega arith) (omega arith) (wrapped_ready rows (i + around) (levels - around) readings w opened n taken inwards_here h)
          here k b (no e) = g.ready k (omega arith)

          there : (k : ℕ) → k < around + 1 → Dec (k ≡ around) → wraps_of (field_at rows (i + k) 0) ≡ true
          there k b (yes e) = rw e h
          there k b (no e) = g.wraps k (omega arith)

      -- A fault of one of them goes onwards through those around it.
      pub inwards_stops : (w₁ opened₁ : List ℕ) (x : Refusal) (k : ℕ) → k ≤ around → TermRan set rows (i + k) (levels - k) readings w opened n taken w₁ opened₁ (Err x) → TermRan set rows i levels readings w opened n taken w₁ opened₁ (Err x)
      inwards_stops w₁ opened₁ x zero h t = moved_ran rows readings w opened n taken (i + 0) (levels - 0) i levels w₁ opened₁ (Err x) (omega arith) (omega arith) t
      inwards_stops w₁ opened₁ x (suc k) h t =
          inwards_stops w₁ opened₁ x k (omega arith)
          (wrapped_stops rows (i + k) (levels - k) readings w opened n taken (g.ready k (omega arith)) (g.wraps k (omega arith)) w₁ opened₁ x
          (moved_ran rows readings w opened n taken (i + suc k) (levels - suc k) (i + k + 1) (levels - k - 1) w₁ opened₁ (Err x) (omega arith) (omega arith) t))

  module _ (rows : List ℕ) (i levels : ℕ) (readings : List ℤ) (n taken : ℕ) (w₁ opened₁ : List ℕ) (around₁ : ℕ) (r₁ : Standing) where
    pub outwards_starts : Outwards rows i levels readings n taken w₁ opened₁ around₁ r₁ w₁ opened₁ around₁ r₁
    outwards_starts = record { some = omega arith; same = refl; ran = λ w₀ opened₀ s g t. t }

    module _ (w opened : List ℕ) (around : ℕ) (r : Standing) (u : Outwards rows i levels readings n taken w₁ opened₁ around₁ r₁ w opened around r) where
      module _ (w₀ opened₀ : List ℕ) (s : length opened₁ ≡ length opened₀) (g : Inwards rows i levels readings w₀ opened₀ n taken around₁) (t : TermRan set rows (i + around₁) (levels - around₁) readings w₀ opened₀ n taken w₁ opened₁ (Ok r₁)) where
        pub outwards_ends : around ≤ 0 → TermRan set rows i levels readings w₀ opened₀ n taken w opened (Ok r)
        outwards_ends h = moved_ran rows readings w₀ opened₀ n taken (i + around) (levels - around) i levels w opened (Ok r) (omega arith) (omega arith) (u.ran w₀ opened₀ s g t)

        module _ (more : 0 < around) where
          outer : TermReady set rows (i + (around - 1)) (levels - (around - 1)) readings w₀ opened₀ n taken
          outer = let a = u.some in g.ready (around - 1) (omega arith)

          wraps : wraps_of (field_at rows (i + (around - 1)) 0) ≡ true
          wraps = let a = u.some in g.wraps (around - 1) (omega arith)

          inner : TermRan set rows (i + (around - 1) + 1) (levels - (around - 1) - 1) readings w₀ opened₀ n taken w opened (Ok r)
          inner = moved_ran rows readings w₀ opened₀ n taken (i + around) (levels - around) (i + (around - 1) + 1) (levels - (around - 1) - 1) w opened (Ok r) (omega arith) (omega arith) (u.ran w₀ opened₀ s g t)

          pub outwards_after : AfterReady set rows (i + (around - 1)) w opened r
          outwards_after = wrapped_after rows (i + (around - 1)) (levels - (around - 1)) readings w₀ opened₀ n taken outer wraps w opened r inner (u.same ∙ s)

          outwards_ran : (w₂ opened₂ : List ℕ) (r₂ : Stands) → AfterRan set rows (i + (around - 1)) w opened r w₂ opened₂ r₂ → TermRan set rows (i + (around - 1)) (levels - (around - 1)) readings w₀ opened₀ n taken w₂ opened₂ r₂
          outwards_ran w₂ opened₂ r₂ a = wrapped_returns rows (i + (around - 1)) (levels - (around - 1)) readings w₀ opened₀ n taken outer wraps w opened r inner (u.same ∙ s) w₂ opened₂ r₂ a

          pub outwards_stops : (w₂ opened₂ : List ℕ) (x : Refusal) → AfterRan set rows (i + (around - 1)) w opened r w₂ opened₂ (Err x) → TermRan set rows i levels readings w₀ opened₀ n taken w₂ opened₂ (Err x)
          outwards_stops w₂ opened₂ x a = let b = u.some in inwards_stops rows i levels readings w₀ opened₀ n taken around₁ g w₂ opened₂ x (around - 1) (omega arith) (outwards_ran w₂ opened₂ (Err x) a)

      pub outwards_goes : 0 < around → (w₂ opened₂ : List ℕ) (r₂ : Standing) → AfterRan set rows (i + (around - 1)) w opened r w₂ opened₂ (Ok r₂) → length opened₂ ≡ length opened → Outwards rows i levels readings n taken w₁ opened₁ around₁ r₁ w₂ opened₂ (around - 1) r₂
      outwards_goes more w₂ opened₂ r₂ a long = record {
        some = let b = u.some in omega arith;
        same = long ∙ u.same;
        ran = λ w₀ opened₀ s g t. outwards_ran w₀ opened₀ s g t more w₂ opened₂ (Ok r₂) a;
      }
