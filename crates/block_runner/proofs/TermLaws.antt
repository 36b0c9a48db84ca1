-- Terms in rows: what each kind asks of its inner term, and what its answer is then.
use Prim.Native.Nat.{ℕ, suc, ◌+◌, ◌-◌, ◌≤◌, ◌<◌}
use native.Mathlib.Omega.{arith}
use native.Mathlib.Decide.{ℕ_discrete}
use mathlib.Core.Path.{◌≡◌, refl, sym, ap, subst, ◌∙◌}
use mathlib.Core.Option.{none, some}
use mathlib.Core.List.{List}
use lib.IntN.{ℤ}
use lib.ListN.{length, get_or}
use lib.ListN as lists
use lib.Seq.{get_or-set_same, get_or-set_other}
use Rattle.std.specs.Prelude.{Result, Ok, Err, IfOk}
use Rattle.syntax.specs.Result.{ok, err, ◌>>=◌}
use Rattle.syntax.specs.declared.refusals.Reason.{Reason}
use Rattle.syntax.specs.declared.refusals.Refusal.{Refusal}
use Rattle.syntax.specs.Limits.{Limits, row_numbers}
use Rattle.syntax.specs.Script.{Term, box, declare, assign}
use Rattle.syntax.specs.Measures.{boxes_in}
use Rattle.syntax.specs.RowParts.{field_at}
use Rattle.syntax.specs.RowTrees.{place_at, RowTree, IsTree, around, tree_at}
use Rattle.syntax.proofs.RowTreeLaws.{around_inner, has_room, box_is, let_number, let_is, assign_is}
use Rattle.dynamics.specs.Store.{State, Ran}
use Rattle.dynamics.specs.Drop.{InOrder}
use Rattle.dynamics.specs.Run.{Outcome, run_box, run_let, run_assign, run}
use Rattle.dynamics.specs.Readings.{bits_of}
use Rattle.store.specs.declared.store.Value.{Value}
use Rattle.store.specs.Words.{Tidy}
use Rattle.store.specs.StoreParts.{state_at, since}
use Rattle.term_runner.specs.LeafParts.{gave, ran_on, run_on, leaf_at, LeafReady, LeafRan}
use Rattle.term_runner.specs.Parts.{seen, Stood, at_row, outcome, stood, sequel, Fine, InnerReady, Went, BoxReady, Boxed, LetReady, Pushed, Declared, Assigned, Opened, end_of, boxes_by, boxes_at, stood_on, run_at, Ready, Stands, plain_stands, PlainRan, TermReady, TermRan}
use Rattle.term_runner.specs.declared.around.Standing.{Standing}
use Rattle.dynamics.proofs.Kept.{keeps_ok}
use Rattle.dynamics.proofs.RunOrder.{run_ordered}
use Rattle.dynamics.proofs.Counting.{taken_is, boxes_bound}
use Rattle.term_runner.proofs.RowLaws.{leaf_is, leaf_end}

-- ---- the outcome of a term, and what follows it

-- A rule after an inner term, on rows.
sequel_bind : (j : ℕ) (m : Ran Outcome) (rule : Outcome → Ran Outcome) → sequel (at_row j (seen m)) rule ≡ at_row j (seen (m >>= rule))
unfolding sequel at_row seen ◌>>=◌
sequel_bind j (ok o) rule = refl
sequel_bind j (err f) rule = refl

-- A term around what stands in the next rows, whose run is theirs with a rule after it.
pub around_run : {A : Type 0} (readings : List ℤ) (f : A → Term) (inside : A → State → Ran Outcome) (rule : Outcome → Ran Outcome) (s s₁ : State) → ((a : A) → run (bits_of readings) (f a) s ≡ (inside a s₁ >>= rule)) → (d : RowTree A) → IsTree d → sequel (stood_on inside d s₁) rule ≡ run_at readings (around f d) s
unfolding stood_on ran_on end_of
around_run readings f inside rule s s₁ e none h = absurd h
around_run readings f inside rule s s₁ e (some r) h = sequel_bind r.1 (inside r.0 s₁) rule ∙ ap (λ (m : Ran Outcome). at_row r.1 (seen m)) (sym (e r.0))

-- ---- a term that met no fault

-- What it says of the run.
pub record Went-well (readings : List ℤ) (d : RowTree Term) (s : State) (o : Outcome) (j : ℕ) : Type 0 where
  pub ran : run_on readings d s ≡ ok o
  pub end : j ≡ end_of d

pub same_ran : (m : Ran Outcome) (o : Outcome) (j k : ℕ) → ◌≡◌ {A = Stood} (ok (o, j)) (at_row k (seen m)) → (m ≡ ok o) × (j ≡ k)
unfolding at_row seen
same_ran (ok b) o j k e = let p : ◌≡◌ {A = Outcome × ℕ} (b, k) (o, j) = cc in (ap (λ (x : Outcome × ℕ). ok x.0) p, sym (ap (λ (x : Outcome × ℕ). x.1) p))
same_ran (err f) o j k e = let z : ◌≡◌ {A = ℕ} 0 1 = cc in absurd (omega arith)

module _ (readings : List ℤ) (s : State) (o : Outcome) where
  ran_ordered : (d : RowTree Term) → IsTree d → InOrder s → run_on readings d s ≡ ok o → InOrder o.0
  unfolding ran_on
  ran_ordered none h q e = absurd h
  ran_ordered (some r) h q e = keeps_ok (run_ordered (bits_of readings) r.0 s q) o e

  ran_taken : (d : RowTree Term) → IsTree d → run_on readings d s ≡ ok o → o.0.taken ≤ s.taken + boxes_at d
  unfolding ran_on boxes_by
  ran_taken none h e = absurd h
  ran_taken (some r) h e = omega (arith, taken_is (bits_of readings) r.0 s o.0 o.1 e, boxes_bound (bits_of readings) r.0 s)

-- ---- what a term asks of its inner term, and what is known after it

-- The boxes in a term or in terms: k more than in what is inside.
pub around_cells : {A B : Type 0} (f : A → B) (inside : A → ℕ) (whole : B → ℕ) (k : ℕ) → ((a : A) → whole (f a) ≡ k + inside a) → (d : RowTree A) → IsTree d → boxes_by whole (around f d) ≡ k + boxes_by inside d
unfolding boxes_by
around_cells f inside whole k e none h = absurd h
around_cells f inside whole k e (some r) h = e r.0

module _ (set : Limits) where
  pub went_well : (readings : List ℤ) (d : RowTree Term) (s : State) (w opened : List ℕ) (begin : ℕ) (r : Standing) → stood set w opened begin (Ok r) ≡ run_at readings d s → Went-well readings d s (outcome set w opened begin r) r.next
  unfolding stood_on
  went_well readings d s w opened begin r e =
      let p = same_ran (run_on readings d s) (outcome set w opened begin r) r.next (end_of d) e in
      record { ran = p.0; end = p.1 }

  -- One row further.
  pub next_ready : (rows : List ℕ) (i : ℕ) (readings : List ℤ) (w opened : List ℕ) (n taken : ℕ) → Ready set rows i readings w opened n taken → Ready set rows (i + 1) readings w opened n taken
  next_ready rows i readings w opened n taken r =
      let f = r.few in
      record { long = r.long; eight = r.eight; many = r.many; tidy = r.tidy; ordered = r.ordered; few = omega arith; listed = r.listed }

  next_opened : (before after : List ℕ) (n m i j : ℕ) → Opened set before after n m (i + 1) j → Opened set before after n m i j
  next_opened before after n m i j o = let f = o.few in record { kept = o.kept; more = o.more; few = omega arith; listed = o.listed; room = o.room }

  same_opened : (before after : List ℕ) (n m m' i j j' : ℕ) → m ≡ m' → j ≡ j' → Opened set before after n m' i j' → Opened set before after n m i j
  same_opened before after n m m' i j j' p q o = rw (p, q) o

  module _ (rows : List ℕ) (i levels : ℕ) (readings : List ℤ) (w opened : List ℕ) (n taken : ℕ) (g : TermReady set rows i levels readings w opened n taken)
      (w₁ opened₁ : List ℕ) (inner : Standing) (t : TermRan set rows i levels readings w opened n taken w₁ opened₁ (Ok inner)) where
    well : Went-well readings (tree_at set.variables levels rows i) (state_at set w taken (since opened n (n - n))) (outcome set w₁ opened₁ n inner) inner.next
    well = went_well readings (tree_at set.variables levels rows i) (state_at set w taken (since opened n (n - n))) w₁ opened₁ n inner (t.is n (omega arith))

    pub term_fine : Fine set w₁ inner
    term_fine = record {
      sound = t.sound;
      ordered = ran_ordered readings (state_at set w taken (since opened n (n - n))) (outcome set w₁ opened₁ n inner) (tree_at set.variables levels rows i) g.is g.ready.ordered well.ran;
    }

    inner_ready : InnerReady set w₁ inner
    inner_ready = record { tidy = t.tidy; fine = term_fine }

    pub term_taken : inner.taken ≤ taken + boxes_at (tree_at set.variables levels rows i)
    term_taken = ran_taken readings (state_at set w taken (since opened n (n - n))) (outcome set w₁ opened₁ n inner) (tree_at set.variables levels rows i) g.is well.ran

  module _ (rows : List ℕ) (i levels : ℕ) (readings : List ℤ) (w opened : List ℕ) (n taken : ℕ) (g : TermReady set rows i levels readings w opened n taken) where
    pub term_room : i + 1 ≤ set.terms
    unfolding row_numbers
    term_room = omega (arith, has_room set.variables levels rows i g.is, g.ready.long)

    -- ---- a term around the one in the next row: f of that one

    abbrev next : RowTree Term
    next = tree_at set.variables (levels - 1) rows (i + 1)

    module _ (f : Term → Term) (e : tree_at set.variables levels rows i ≡ around f next) where
      next_is : IsTree next
      next_is = around_inner f next (rw e at g.is)

      module _ (k : ℕ) (boxes : (t : Term) → boxes_in (f t) ≡ k + boxes_in t) where
        next_cells : taken + (k + boxes_at next) ≤ set.boxes
        next_cells = omega (arith, g.cells, ap boxes_at e, around_cells f boxes_in boxes_in k boxes next next_is)

        around_ready : TermReady set rows (i + 1) (levels - 1) readings w opened n taken
        around_ready = record {
          ready = next_ready rows i readings w opened n taken g.ready;
          is = next_is;
          cells = omega (arith, next_cells);
        }

      module _ (rule : Outcome → Ran Outcome) (runs : (t : Term) (s : State) → run (bits_of readings) (f t) s ≡ (run (bits_of readings) t s >>= rule))
          (w₁ opened₁ : List ℕ) where
        around_is : (inner : Stands) → TermRan set rows (i + 1) (levels - 1) readings w opened n taken w₁ opened₁ inner → (begin : ℕ) → begin ≤ n → sequel (stood set w₁ opened₁ begin inner) rule ≡ run_at readings (tree_at set.variables levels rows i) (state_at set w taken (since opened begin (n - begin)))
        around_is inner t begin h =
            let s : State = state_at set w taken (since opened begin (n - begin)) in
            ap (λ (m : Stood). sequel m rule) (t.is begin h)
            ∙ around_run readings f (run (bits_of readings)) rule s s (λ x. runs x s) next next_is
            ∙ ap (λ (d : RowTree Term). run_at readings d s) (sym e)

        -- A fault goes onwards.
        around_stops : (x : Refusal) → TermRan set rows (i + 1) (levels - 1) readings w opened n taken w₁ opened₁ (Err x) → TermRan set rows i levels readings w opened n taken w₁ opened₁ (Err x)
        unfolding sequel
        around_stops x t = record { tidy = t.tidy; is = around_is (Err x) t; sound = tt; opens = tt }

        -- Where the rule opens no variable.
        module _ (inner : Standing) (t : TermRan set rows (i + 1) (levels - 1) readings w opened n taken w₁ opened₁ (Ok inner)) where
          around_returns : (w₂ : List ℕ) (r : Stands) → Tidy set w₂ → ((begin : ℕ) → stood set w₂ opened₁ begin r ≡ sequel (stood set w₁ opened₁ begin (Ok inner)) rule) → IfOk r (λ s. Went set inner s) → IfOk r (λ s. s.opened ≡ inner.opened) → TermRan set rows i levels readings w opened n taken w₂ opened₁ r
          around_returns w₂ (Ok r) tidy is went count = record {
            tidy = tidy;
            is = λ begin h. is begin ∙ around_is (Ok inner) t begin h;
            sound = went.sound;
            opens = same_opened opened opened₁ n r.opened inner.opened i r.next inner.next count went.next (next_opened opened opened₁ n inner.opened i inner.next t.opens);
          }
          around_returns w₂ (Err x) tidy is went count = record { tidy = tidy; is = λ begin h. is begin ∙ around_is (Ok inner) t begin h; sound = tt; opens = tt }

    -- ---- box

    module _ (e : field_at rows i 0 ≡ 7) where
      box_cells : (t : Term) → boxes_in (box i t) ≡ 1 + boxes_in t
      unfolding boxes_in
      box_cells t = omega arith

      pub box_ready : TermReady set rows (i + 1) (levels - 1) readings w opened n taken
      box_ready = around_ready (box i) (box_is set.variables levels rows i g.is e) 1 box_cells

      pub box_stops : (w₁ opened₁ : List ℕ) (x : Refusal) → TermRan set rows (i + 1) (levels - 1) readings w opened n taken w₁ opened₁ (Err x) → TermRan set rows i levels readings w opened n taken w₁ opened₁ (Err x)
      unfolding run
      box_stops w₁ opened₁ x t = around_stops (box i) (box_is set.variables levels rows i g.is e) (λ o. run_box o.0 o.1) (λ x s. refl) w₁ opened₁ x t

      module _ (w₁ opened₁ : List ℕ) (inner : Standing) (t : TermRan set rows (i + 1) (levels - 1) readings w opened n taken w₁ opened₁ (Ok inner)) where
        pub box_filling : BoxReady set w₁ inner
        box_filling = record {
          ready = inner_ready rows (i + 1) (levels - 1) readings w opened n taken box_ready w₁ opened₁ inner t;
          few = omega (arith, next_cells (box i) (box_is set.variables levels rows i g.is e) 1 box_cells, term_taken rows (i + 1) (levels - 1) readings w opened n taken box_ready w₁ opened₁ inner t);
        }

        pub box_returns : (w₂ : List ℕ) (r : Stands) → Boxed set w₁ inner w₂ r → TermRan set rows i levels readings w opened n taken w₂ opened₁ r
        unfolding run
        box_returns w₂ r b = around_returns (box i) (box_is set.variables levels rows i g.is e) (λ o. run_box o.0 o.1) (λ x s. refl) w₁ opened₁ inner t w₂ r b.tidy (b.is opened₁) b.went b.count

    -- ---- let

    module _ (e : field_at rows i 0 ≡ 8) where
      pub let_ready : TermReady set rows (i + 1) (levels - 1) readings w opened n taken
      unfolding boxes_in
      let_ready = around_ready (declare i (field_at rows i 1)) (let_is set.variables levels rows i g.is e) 0 (λ t. omega arith)

      pub let_stops : (w₁ opened₁ : List ℕ) (x : Refusal) → TermRan set rows (i + 1) (levels - 1) readings w opened n taken w₁ opened₁ (Err x) → TermRan set rows i levels readings w opened n taken w₁ opened₁ (Err x)
      unfolding run
      let_stops w₁ opened₁ x t = around_stops (declare i (field_at rows i 1)) (let_is set.variables levels rows i g.is e) (λ o. run_let o.0 i (field_at rows i 1) o.1) (λ x s. refl) w₁ opened₁ x t

      module _ (w₁ opened₁ : List ℕ) (inner : Standing) (t : TermRan set rows (i + 1) (levels - 1) readings w opened n taken w₁ opened₁ (Ok inner)) (long : length opened₁ ≡ length opened) where
        pub let_opening : LetReady set w₁ opened₁ (field_at rows i 1) inner
        let_opening = record {
          ready = inner_ready rows (i + 1) (levels - 1) readings w opened n taken let_ready w₁ opened₁ inner t;
          variable = let_number set.variables levels rows i g.is e;
          few = let o = t.opens in omega (arith, o.few, o.room, g.ready.few, g.ready.many);
        }

        pushed_opened : (opened₂ : List ℕ) (r : Standing) → Pushed opened₁ (field_at rows i 1) inner opened₂ r → r.next ≡ inner.next → Opened set opened opened₂ n r.opened i r.next
        pushed_opened opened₂ r p q =
            let o = t.opens in
            let a = o.few in
            let m = o.more in
            let b = p.count in
            record {
              kept = λ k h. ap (λ (l : List ℕ). get_or l k 0) p.is ∙ get_or-set_other opened₁ inner.opened k (field_at rows i 1) 0 (omega arith) ∙ o.kept k h;
              more = omega arith;
              few = omega arith;
              listed = λ k h. rw p.is (go k (ℕ_discrete k inner.opened) (omega arith));
              room = rw q o.room;
            }
          where
            go : (k : ℕ) → Dec (k ≡ inner.opened) → k < suc inner.opened → get_or (lists.set opened₁ inner.opened (field_at rows i 1)) k 0 < set.variables
            go k (yes s) h = rw (s, get_or-set_same opened₁ inner.opened (field_at rows i 1) 0 let_opening.few) let_opening.variable
            go k (no s) h = rw (get_or-set_other opened₁ inner.opened k (field_at rows i 1) 0 s) (t.opens.listed k (omega arith))

        let_is_run : (w₂ opened₂ : List ℕ) (r : Stands) → Declared set w₁ opened₁ i (field_at rows i 1) inner w₂ opened₂ r → (begin : ℕ) → begin ≤ n → stood set w₂ opened₂ begin r ≡ run_at readings (tree_at set.variables levels rows i) (state_at set w taken (since opened begin (n - begin)))
        unfolding run
        let_is_run w₂ opened₂ r b begin h =
            b.is begin (omega (arith, t.opens.more))
            ∙ around_is (declare i (field_at rows i 1)) (let_is set.variables levels rows i g.is e) (λ o. run_let o.0 i (field_at rows i 1) o.1) (λ x s. refl) w₁ opened₁ (Ok inner) t begin h

        pub let_returns : (w₂ opened₂ : List ℕ) (r : Stands) → Declared set w₁ opened₁ i (field_at rows i 1) inner w₂ opened₂ r → TermRan set rows i levels readings w opened n taken w₂ opened₂ r
        let_returns w₂ opened₂ (Ok r) b = record { tidy = b.tidy; is = let_is_run w₂ opened₂ (Ok r) b; sound = b.went.sound; opens = pushed_opened opened₂ r b.pushed b.went.next }
        let_returns w₂ opened₂ (Err x) b = record { tidy = b.tidy; is = let_is_run w₂ opened₂ (Err x) b; sound = tt; opens = tt }

    -- ---- assign

    module _ (e : field_at rows i 0 ≡ 9) where
      pub assign_ready : TermReady set rows (i + 1) (levels - 1) readings w opened n taken
      unfolding boxes_in
      assign_ready = around_ready (assign i (place_at rows i 1)) (assign_is set.variables levels rows i g.is e) 0 (λ t. omega arith)

      pub assign_stops : (w₁ opened₁ : List ℕ) (x : Refusal) → TermRan set rows (i + 1) (levels - 1) readings w opened n taken w₁ opened₁ (Err x) → TermRan set rows i levels readings w opened n taken w₁ opened₁ (Err x)
      unfolding run
      assign_stops w₁ opened₁ x t = around_stops (assign i (place_at rows i 1)) (assign_is set.variables levels rows i g.is e) (λ o. run_assign o.0 i (place_at rows i 1) o.1) (λ x s. refl) w₁ opened₁ x t

      module _ (w₁ opened₁ : List ℕ) (inner : Standing) (t : TermRan set rows (i + 1) (levels - 1) readings w opened n taken w₁ opened₁ (Ok inner)) where
        pub assigning : InnerReady set w₁ inner
        assigning = inner_ready rows (i + 1) (levels - 1) readings w opened n taken assign_ready w₁ opened₁ inner t

        pub assign_returns : (w₂ : List ℕ) (r : Stands) → Assigned set w₁ i (field_at rows i 1) (field_at rows i 2) inner w₂ r → TermRan set rows i levels readings w opened n taken w₂ opened₁ r
        unfolding run
        assign_returns w₂ r b =
            around_returns (assign i (place_at rows i 1)) (assign_is set.variables levels rows i g.is e) (λ o. run_assign o.0 i (place_at rows i 1) o.1) (λ x s. refl) w₁ opened₁ inner t w₂ r b.tidy (b.is opened₁) b.went b.count

    -- ---- the terms without an inner term

    module _ (k : ℕ) (ek : k ≡ field_at rows i 0) (a : (k ≡ 7 → ⊥) × (k ≡ 8 → ⊥) × (k ≡ 9 → ⊥)) (d : k ≡ 11 → ⊥) (c : k ≡ 12 → ⊥) where
      tree_leaf : tree_at set.variables levels rows i ≡ leaf_at set rows i
      tree_leaf = leaf_is set levels rows i k g.is ek a d c

      pub leaf_ready : LeafReady set rows i readings w
      leaf_ready = record { room = has_room set.variables levels rows i g.is; leaf = subst IsTree tree_leaf g.is; eight = g.ready.eight; tidy = g.ready.tidy }

      leaf_is_run : (w₁ : List ℕ) (x : Result Value Reason) → LeafRan set rows i readings w w₁ x → (begin : ℕ) → at_row (i + 1) (seen (gave set w₁ taken (since opened begin (n - begin)) i x)) ≡ run_at readings (tree_at set.variables levels rows i) (state_at set w taken (since opened begin (n - begin)))
      unfolding stood_on
      leaf_is_run w₁ x y begin =
          ap (λ (m : Ran Outcome). at_row (i + 1) (seen m)) (y.is taken (since opened begin (n - begin)))
          ∙ ap (λ (j : ℕ). at_row j (seen (run_on readings (leaf_at set rows i) (state_at set w taken (since opened begin (n - begin)))))) (sym (leaf_end set rows i leaf_ready.leaf))
          ∙ ap (λ (d : RowTree Term). at_row (end_of d) (seen (run_on readings d (state_at set w taken (since opened begin (n - begin)))))) (sym tree_leaf)

      leaf_stands : (w₁ : List ℕ) (x : Result Value Reason) → LeafRan set rows i readings w w₁ x → TermRan set rows i levels readings w opened n taken w₁ opened (plain_stands i n taken x)
      unfolding seen at_row
      leaf_stands w₁ (Ok v) y = record {
        tidy = y.tidy;
        is = λ begin h. leaf_is_run w₁ (Ok v) y begin;
        sound = y.sound;
        opens = record { kept = λ k h. refl; more = omega arith; few = omega arith; listed = g.ready.listed; room = term_room };
      }
      leaf_stands w₁ (Err x) y = record { tidy = y.tidy; is = λ begin h. leaf_is_run w₁ (Err x) y begin; sound = tt; opens = tt }

      pub leaf_returns : (w₁ : List ℕ) (r : Stands) → PlainRan set rows i readings w n taken w₁ r → TermRan set rows i levels readings w opened n taken w₁ opened r
      leaf_returns w₁ r x = subst (TermRan set rows i levels readings w opened n taken w₁ opened) (sym x.is) (leaf_stands w₁ x.gives x.ran)
