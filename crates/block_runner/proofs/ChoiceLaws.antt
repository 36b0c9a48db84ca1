-- The choice in rows: what the block that runs asks, and what the choice's answer is after it.
use Prim.Native.Nat.{ℕ, ◌+◌, ◌-◌, ◌≤◌, ◌<◌}
use native.Mathlib.Omega.{arith}
use native.Mathlib.Decide.{ℕ_discrete}
use mathlib.Core.Path.{◌≡◌, sym, ap, subst, ◌∙◌}
use mathlib.Core.List.{List}
use lib.IntN.{ℤ}
use borrow.Author.Tests.{eq-eqb, ne_eqb}
use Rattle.std.specs.Prelude.{Result, Ok, Err, IfOk, MatchResult}
use Rattle.syntax.specs.Limits.{Limits, row_numbers}
use Rattle.syntax.specs.declared.refusals.Reason.{Reason}
use Rattle.syntax.specs.declared.refusals.Refusal.{Refusal}
use Rattle.syntax.specs.Result.{ok, err, ◌>>=◌}
use Rattle.syntax.specs.Script.{Term, block, choice}
use Rattle.syntax.specs.Measures.{boxes_in}
use Rattle.syntax.specs.RowParts.{field_at}
use Rattle.syntax.specs.RowTrees.{place_at, IsTree, tree_at}
use Rattle.syntax.proofs.ChoiceRows.{tree_some, BlockRows, ChoiceRows, choice_rows, tree_rows}
use Rattle.dynamics.specs.Store.{State, Ran}
use Rattle.dynamics.specs.Run.{Outcome, run_number, run}
use Rattle.dynamics.specs.Readings.{bits_of}
use Rattle.store.specs.Words.{Tidy}
use Rattle.store.specs.StoreParts.{state_at, told_at, since}
use Rattle.term_runner.specs.LeafParts.{Numbered, ran_on}
use Rattle.term_runner.specs.Parts.{Stop, seen, Stood, at_row, outcome, Stands, stood, end_of, boxes_by, boxes_at, stood_on, run_at, Ready, TermReady, TermRan}
use Rattle.term_runner.specs.Skip.{Passable, Chosen, onwards, PastReady, Past}
use Rattle.term_runner.specs.declared.around.Standing.{Standing}
use Rattle.term_runner.proofs.SkipLaws.{some_end}
use Rattle.block_runner.proofs.TermLaws.{same_ran, went_well}

-- After a fault no row counts.
any_row : (m : Ran Outcome) (o : Stop) (j k : ℕ) → ◌≡◌ {A = Stood} (err o) (at_row j (seen m)) → ◌≡◌ {A = Stood} (err o) (at_row k (seen m))
unfolding at_row seen
any_row (ok a) o j k e = let z : ◌≡◌ {A = ℕ} 0 1 = cc in absurd (omega arith)
any_row (err x) o j k e = e

module _ (set : Limits) where
  -- The same outcome before another row.
  onwards_stood : (w opened : List ℕ) (begin : ℕ) (r : Standing) (j k l : ℕ) (m : Ran Outcome) → stood set w opened begin (Ok r) ≡ at_row k (seen m) → j ≡ l → stood set w opened begin (Ok (onwards r j)) ≡ at_row l (seen m)
  unfolding at_row seen
  onwards_stood w opened begin r j k l m e q =
      let p = same_ran m (outcome set w opened begin r) r.next k e in
      ap (λ (n : ℕ). ok (outcome set w opened begin r, n)) q ∙ sym (ap (λ (x : Ran Outcome). at_row l (seen x)) p.0)

  module _ (rows : List ℕ) (i levels : ℕ) (readings : List ℤ) (w opened : List ℕ) (n taken : ℕ) (g : TermReady set rows i levels readings w opened n taken)
      (e : field_at rows i 0 ≡ 12) where
    -- ---- its rows

    shape : ChoiceRows set.variables levels rows i
    shape = choice_rows set.variables levels rows i g.is e

    abbrev whole : Term
    whole = choice i (place_at rows i 1) (i + 1) shape.first.terms shape.first.end shape.second.terms

    -- The state in which it begins, seen from the block around it.
    abbrev state : ℕ → State
    state begin = state_at set w taken (since opened begin (n - begin))

    whole_run : (s : State) → run_at readings (tree_at set.variables levels rows i) s ≡ at_row shape.second.end (seen (run (bits_of readings) whole s))
    unfolding stood_on ran_on end_of
    whole_run s = rw shape.is

    record Rows : Type 0 where
      first : i < shape.first.end
      second : shape.first.end ≤ shape.second.end
      room : shape.second.end ≤ set.terms

    in_rows : Rows
    unfolding row_numbers
    in_rows =
        let a = (tree_rows rows set.variables (levels - 1) (i + 1) _ _ shape.first.is).0 in
        let b = tree_rows rows set.variables (levels - 1) shape.first.end _ _ shape.second.is in
        let b₀ = b.0 in
        let b₁ = b.1 in
        let l = g.ready.long in
        record { first = omega arith; second = omega arith; room = omega arith }

    -- ---- the number at its place

    pub choice_place : (root : ℕ) → root ≡ field_at rows i 1 → Tidy set w × (root < set.variables)
    choice_place root e = (g.ready.tidy, rw e shape.root)

    module _ (root follows : ℕ) (p : (root ≡ field_at rows i 1) × (follows ≡ field_at rows i 2)) where
      number_is : (x : Result ℕ Reason) → Numbered set w root follows x → (begin : ℕ) → run_number (state begin) i (place_at rows i 1) ≡ told_at (state begin) i (λ m. m) x
      number_is x y begin = sym (y.is i taken (since opened begin (n - begin)) ∙ rw (p.0, p.1))

      pub choice_stops : (x : Reason) → Numbered set w root follows (Err x) → TermRan set rows i levels readings w opened n taken w opened (Err (record { reason = x; place = i }))
      unfolding run ◌>>=◌ seen at_row
      choice_stops x y = record {
        tidy = g.ready.tidy;
        is = λ begin h. sym (whole_run (state begin) ∙ rw (number_is (Err x) y begin));
        sound = tt;
        opens = tt;
      }

      module _ (m : ℕ) (y : Numbered set w root follows (Ok m)) where
        first_runs : (m ≡ 0 → ⊥) → (begin : ℕ) → run (bits_of readings) whole (state begin) ≡ run (bits_of readings) (block (i + 1) shape.first.terms) (state begin)
        unfolding run ◌>>=◌
        first_runs z begin = rw (number_is (Ok m) y begin, ne_eqb m 0 z)

        second_runs : m ≡ 0 → (begin : ℕ) → run (bits_of readings) whole (state begin) ≡ run (bits_of readings) (block shape.first.end shape.second.terms) (state begin)
        unfolding run ◌>>=◌
        second_runs z begin = rw (number_is (Ok m) y begin, eq-eqb m 0 z)

    -- ---- the block that runs

    later_ready : (j : ℕ) → i ≤ j → Ready set rows i readings w opened n taken → Ready set rows j readings w opened n taken
    later_ready j h r = let f = r.few in record { long = r.long; eight = r.eight; many = r.many; tidy = r.tidy; ordered = r.ordered; few = omega arith; listed = r.listed }

    -- The boxes of both blocks are the choice's.
    cells : boxes_at (tree_at set.variables levels rows i) ≡ boxes_at (tree_at set.variables (levels - 1) rows (i + 1)) + boxes_at (tree_at set.variables (levels - 1) rows shape.first.end)
    unfolding boxes_by boxes_in
    cells = rw (shape.is, shape.first.is, shape.second.is)

    abbrev RunsAt : ℕ → Type 0
    RunsAt j = TermReady set rows j (levels - 1) readings w opened n taken × (field_at rows j 0 ≡ 11)

    first_ready : RunsAt (i + 1)
    first_ready = (record { ready = later_ready (i + 1) (omega arith) g.ready; is = tree_some _ shape.first.is; cells = omega (arith, g.cells, cells) }, shape.first.kind)

    second_ready : RunsAt shape.first.end
    second_ready =
        let f = in_rows.first in
        (record { ready = later_ready shape.first.end (omega arith) g.ready; is = tree_some _ shape.second.is; cells = omega (arith, g.cells, cells) }, shape.second.kind)

    pub choice_passable : Passable rows (i + 1)
    choice_passable = record { set = set; levels = levels - 1; is = tree_some _ shape.first.is }

    module _ (m j : ℕ) (c : Chosen rows i m j) where
      second_row : m ≡ 0 → j ≡ shape.first.end
      second_row z = c.second z set (levels - 1) (tree_some _ shape.first.is) ∙ some_end _ _ _ shape.first.is

      pub chosen_ready : RunsAt j
      chosen_ready = go (ℕ_discrete m 0)
        where
          go : Dec (m ≡ 0) → RunsAt j
          go (yes z) = subst RunsAt (sym (second_row z)) second_ready
          go (no z) = subst RunsAt (sym (c.first z)) first_ready

    -- ---- after it

    module _ (w₁ opened₁ : List ℕ) where
      abbrev RanAt : Stands → ℕ → Type 0
      RanAt r j = TermRan set rows j (levels - 1) readings w opened n taken w₁ opened₁ r

      -- Block b, which is either of the two.
      module _ (j : ℕ) (b : BlockRows set.variables (levels - 1) rows j) (runs : (begin : ℕ) → run (bits_of readings) whole (state begin) ≡ run (bits_of readings) (block j b.terms) (state begin)) where
        block_run : (s : State) → run_at readings (tree_at set.variables (levels - 1) rows j) s ≡ at_row b.end (seen (run (bits_of readings) (block j b.terms) s))
        unfolding stood_on ran_on end_of
        block_run s = rw b.is

        -- A fault of it goes onwards.
        block_fails : (x : Refusal) → RanAt (Err x) j → TermRan set rows i levels readings w opened n taken w₁ opened₁ (Err x)
        block_fails x t = record {
          tidy = t.tidy;
          is = λ begin h.
              any_row (run (bits_of readings) (block j b.terms) (state begin)) _ b.end shape.second.end (t.is begin h ∙ block_run (state begin))
              ∙ sym (whole_run (state begin) ∙ ap (λ (x : Ran Outcome). at_row shape.second.end (seen x)) (runs begin));
          sound = tt;
          opens = tt;
        }

        module _ (ran : Standing) (t : RanAt (Ok ran) j) where
          block_next : ran.next ≡ b.end
          block_next = (went_well set readings (tree_at set.variables (levels - 1) rows j) (state n) w₁ opened₁ n ran (t.is n (omega arith))).end ∙ some_end _ _ _ b.is

          after_block : i ≤ j → b.end ≤ shape.second.end → (k : ℕ) → k ≡ shape.second.end → TermRan set rows i levels readings w opened n taken w₁ opened₁ (Ok (onwards ran k))
          after_block h₁ h₂ k last = record {
            tidy = t.tidy;
            is = λ begin h.
                onwards_stood w₁ opened₁ begin ran k b.end shape.second.end (run (bits_of readings) (block j b.terms) (state begin)) (t.is begin h ∙ block_run (state begin)) last
                ∙ sym (whole_run (state begin) ∙ ap (λ (x : Ran Outcome). at_row shape.second.end (seen x)) (runs begin));
            sound = t.sound;
            opens =
                let o = t.opens in
                let a = o.few in
                let q = block_next in
                record { kept = o.kept; more = o.more; few = omega arith; listed = o.listed; room = omega (arith, in_rows.room) };
          }

      module _ (m j : ℕ) (c : Chosen rows i m j) (root follows : ℕ) (p : (root ≡ field_at rows i 1) × (follows ≡ field_at rows i 2)) (y : Numbered set w root follows (Ok m)) where
        choice_fails : (x : Refusal) → RanAt (Err x) j → TermRan set rows i levels readings w opened n taken w₁ opened₁ (Err x)
        choice_fails x t = go (ℕ_discrete m 0)
          where
            go : Dec (m ≡ 0) → TermRan set rows i levels readings w opened n taken w₁ opened₁ (Err x)
            go (yes z) = block_fails shape.first.end shape.second (second_runs root follows p m y z) x (subst (RanAt (Err x)) (second_row m j c z) t)
            go (no z) = block_fails (i + 1) shape.first (first_runs root follows p m y z) x (subst (RanAt (Err x)) (c.first z) t)

        module _ (ran : Standing) (t : RanAt (Ok ran) j) where
          first_ran : (m ≡ 0 → ⊥) → RanAt (Ok ran) (i + 1)
          first_ran z = subst (RanAt (Ok ran)) (c.first z) t

          first_next : (m ≡ 0 → ⊥) → ran.next ≡ shape.first.end
          first_next z = block_next (i + 1) shape.first (first_runs root follows p m y z) ran (first_ran z)

          -- The second block stands where the first one ended.
          next_is : (m ≡ 0 → ⊥) → IsTree (tree_at set.variables (levels - 1) rows ran.next)
          next_is z = rw (first_next z) (tree_some _ shape.second.is)

          past_ready : PastReady rows m ran
          past_ready z = record { set = set; levels = levels - 1; is = next_is z }

          past_returns : (r : Standing) → Past rows m ran r → TermRan set rows i levels readings w opened n taken w₁ opened₁ (Ok r)
          past_returns r q = subst (λ (x : Standing). TermRan set rows i levels readings w opened n taken w₁ opened₁ (Ok x)) (sym q.is) (go (ℕ_discrete m 0))
            where
              go : Dec (m ≡ 0) → TermRan set rows i levels readings w opened n taken w₁ opened₁ (Ok (onwards ran r.next))
              go (yes z) =
                  let f = in_rows.first in
                  let u = subst (RanAt (Ok ran)) (second_row m j c z) t in
                  after_block shape.first.end shape.second (second_runs root follows p m y z) ran u (omega arith) (omega arith) r.next (q.second z ∙ block_next shape.first.end shape.second (second_runs root follows p m y z) ran u)
              go (no z) =
                  after_block (i + 1) shape.first (first_runs root follows p m y z) ran (first_ran z) (omega arith) in_rows.second r.next
                  (q.first z set (levels - 1) (next_is z) ∙ ap (λ (k : ℕ). end_of (tree_at set.variables (levels - 1) rows k)) (first_next z) ∙ some_end _ _ _ shape.second.is)

        pub choice_past : (ran : Stands) → RanAt ran j → IfOk ran (λ s. PastReady rows m s)
        choice_past (Ok s) t = past_ready s t
        choice_past (Err x) t = tt

        -- After the end of that block, which is handed a fault too.
        pub choice_returns : (ran : Stands) → RanAt ran j → (r : Stands) → MatchResult ran (λ s. MatchResult r (λ q. Past rows m s q) (λ _. ⊥)) (λ e. r ≡ Err e)
            → TermRan set rows i levels readings w opened n taken w₁ opened₁ r
        choice_returns (Ok s) t (Ok q) p = past_returns s t q p
        choice_returns (Ok s) t (Err x) p = absurd p
        choice_returns (Err x) t r p = rw p (choice_fails x t)
