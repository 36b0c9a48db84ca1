-- A whole run: what `run_script`, `run_judged` and `run_unchecked` answer.
use Prim.Native.Nat.{ℕ, ◌-◌, ◌≤◌, ◌<◌}
use native.Mathlib.Omega.{arith}
use mathlib.Core.Path.{◌≡◌, refl, sym, ap, ◌∙◌}
use mathlib.Core.Bool.{true}
use mathlib.Core.Option.{none, some}
use mathlib.Core.List.{List, []}
use lib.IntN.{ℤ}
use lib.ListN.{length, get_or}
use mir.Syntax.{w32}
use mir.Val.{to_z}
use borrow.Author.Tests.{eq-eqb}
use Rattle.std.specs.Prelude.{Ok, Err, IfOk, MatchResult}
use Rattle.syntax.specs.Refusals.{number_of, told}
use Rattle.syntax.specs.declared.refusals.Refusal as answer
use Rattle.syntax.specs.declared.refusals.Reason.TheVariants.{WrongKind}
use Rattle.store.specs.declared.store.Value as held
use Rattle.store.specs.declared.store.Value.TheVariants as value
use Rattle.syntax.specs.Result.{Result, ok, err, Refusal, need, ◌>>=◌}
use Rattle.syntax.specs.Limits.{Limits, in_ranges, row_numbers, store_rows, store_numbers}
use Rattle.syntax.specs.Script.{Term}
use Rattle.syntax.specs.Layout.{zeros}
use Rattle.syntax.specs.Measures.{size}
use Rattle.syntax.specs.Reader.{decode}
use Rattle.syntax.specs.RowTrees.{RowTree, IsTree, tree_at}
use Rattle.syntax.specs.Answers.{rows_tree, judged_of}
use Rattle.syntax.proofs.Answers.{then}
use Rattle.reader.proofs.Promise.{Decoded, tree_decoded}
use Rattle.syntax.proofs.Ranges.{Ranged, ranged}
use Rattle.dynamics.specs.Values.{cell, closed}
use Rattle.dynamics.specs.Store.{Store, State, Ran}
use Rattle.dynamics.specs.Locate.{number_in}
use Rattle.dynamics.specs.Run.{Outcome, run, run_script}
use Rattle.dynamics.specs.Encode.{encode}
use Rattle.dynamics.specs.Answers.{answered, refused, faulted, AnswerAndStore, run_fits, runnable, ran_into, run_into, unchecked_of}
use Rattle.machine.specs.Outcomes.{told_ran, told_unchecked}
use Rattle.dynamics.specs.Readings.{bits_of}
use Rattle.store.specs.Words.{as_value, store_of}
use Rattle.store.specs.StoreParts.{state_at, since}
use Rattle.term_runner.specs.Parts.{Stop, seen, Stood, at_row, outcome, Stands, stood, EndReady, BlockClosed, end_of, boxes_by, stood_on, run_at, TermReady, TermRan, BlockReady, BlockRan}
use Rattle.term_runner.specs.LeafParts.{ran_on}
use Rattle.machine.specs.ScriptParts.{ScriptReady, script_on, script_ran, RunReady}
use Rattle.term_runner.specs.declared.around.Standing.{Standing}
use Rattle.machine.specs.declared.Stopped.TheVariants as out
use Rattle.store.proofs.WordLaws.{cleared_store, cleared_tidy}
use Rattle.term_runner.proofs.LeafLaws.{no_number}
use Rattle.block_runner.proofs.TermLaws.{same_ran}
use Rattle.block_runner.proofs.BlockRunLaws.{block_ready, block_ending, block_returns}
use Rattle.dynamics.proofs.JudgedRows.{Runnable, judged}

-- The state in which a run begins.
abbrev start : State
start = record { store = λ l. closed; taken = 0; opened = [] }

accepted_rows : (m : Result Refusal Term) (n : ℕ) → ◌≡◌ {A = Result Refusal ℕ} (ok n) (m >>= λ t. ok (size t)) → (t : Term) × (m ≡ ok t)
unfolding ◌>>=◌
accepted_rows (ok t) n q = (t, refl)
accepted_rows (err e) n q = let z : ◌≡◌ {A = ℕ} 0 1 = cc in absurd (omega arith)

module _ (set : Limits) where
  -- ---- the end of a run

  -- What is left in the store after a fault.
  abbrev stopped : Stop → AnswerAndStore
  stopped s = (faulted s.number s.term, encode set.variables (store_rows set) s.store)

  module _ (readings : List ℤ) (t : Term) (w : List ℕ) (words : encode set.variables (store_rows set) (store_of set w) ≡ w) where
    fault_ends : (m : Ran Outcome) (n i j : ℕ) → run (bits_of readings) t start ≡ m → ◌≡◌ {A = Stood} (err (record { number = n; term = i; store = store_of set w })) (at_row j (seen m))
        → ◌≡◌ {A = AnswerAndStore} (faulted n i, w) (ran_into set (run_script (bits_of readings) t (λ x. closed)))
    unfolding at_row seen run_script ran_into ◌>>=◌
    fault_ends (ok o) n i j q e = let z : ◌≡◌ {A = ℕ} 0 1 = cc in absurd (omega arith)
    fault_ends (err f) n i j q e =
        let p : ◌≡◌ {A = Stop} (record { number = n; term = i; store = store_of set w }) (record { number = f.number; term = f.term; store = f.state.store }) = cc in
        ap (λ (x : List ℕ). (faulted n i, x)) (sym words) ∙ ap stopped p ∙ sym (rw q)

    module _ (taken : ℕ) (opened : List ℕ) (v : held.Value) (q : run (bits_of readings) t start ≡ ok (state_at set w taken opened, as_value set v)) where
      wrong_ends : ((n : ℕ) → v ≡ value.Number n → ⊥) → ◌≡◌ {A = AnswerAndStore} (faulted 61 0, w) (ran_into set (run_script (bits_of readings) t (λ x. closed)))
      unfolding run_script ran_into ◌>>=◌
      wrong_ends n = ap (λ (x : List ℕ). (faulted 61 0, x)) (sym words) ∙ sym (rw (q, no_number set (state_at set w taken opened) 0 v n))

      number_ends : (p : ℕ) → v ≡ value.Number p → ◌≡◌ {A = AnswerAndStore} (answered (to_z w32 p) taken, w) (ran_into set (run_script (bits_of readings) t (λ x. closed)))
      unfolding run_script ran_into number_in ◌>>=◌
      number_ends p n = ap (λ (x : List ℕ). (answered (to_z w32 p) taken, x)) (sym words) ∙ sym (rw (q, n))

  -- The same of a term that stands in rows.
  module _ (readings : List ℤ) (w : List ℕ) (words : encode set.variables (store_rows set) (store_of set w) ≡ w) where
    tree_faults : (d : RowTree Term) → IsTree d → (n i : ℕ) → ◌≡◌ {A = Stood} (err (record { number = n; term = i; store = store_of set w })) (run_at readings d start) → ◌≡◌ {A = AnswerAndStore} (faulted n i, w) (script_on set readings d)
    unfolding stood_on ran_on end_of script_on
    tree_faults none h n i q = absurd h
    tree_faults (some t) h n i q = fault_ends readings t.0 w words (run (bits_of readings) t.0 start) n i t.1 refl q

    module _ (opened : List ℕ) (r : Standing) where
      tree_ran : (t : Term × ℕ) → ◌≡◌ {A = Stood} (ok (outcome set w opened 0 r, r.next)) (run_at readings (some t) start) → run (bits_of readings) t.0 start ≡ ok (outcome set w opened 0 r)
      unfolding stood_on ran_on end_of
      tree_ran t q = (same_ran (run (bits_of readings) t.0 start) (outcome set w opened 0 r) r.next t.1 q).0

      tree_wrong : (d : RowTree Term) → IsTree d → ◌≡◌ {A = Stood} (ok (outcome set w opened 0 r, r.next)) (run_at readings d start) → ((n : ℕ) → r.value ≡ value.Number n → ⊥) → ◌≡◌ {A = AnswerAndStore} (faulted 61 0, w) (script_on set readings d)
      unfolding script_on
      tree_wrong none h q k = absurd h
      tree_wrong (some t) h q k = wrong_ends readings t.0 w words r.taken (since opened 0 (r.opened - 0)) r.value (tree_ran t q) k

      tree_answers : (d : RowTree Term) → IsTree d → ◌≡◌ {A = Stood} (ok (outcome set w opened 0 r, r.next)) (run_at readings d start) → (p : ℕ) → r.value ≡ value.Number p → ◌≡◌ {A = AnswerAndStore} (answered (to_z w32 p) r.taken, w) (script_on set readings d)
      unfolding script_on
      tree_answers none h q p k = absurd h
      tree_answers (some t) h q p k = number_ends readings t.0 w words r.taken (since opened 0 (r.opened - 0)) r.value (tree_ran t q) p k

  -- ---- what the lengths and the reader make of the answer

  refused_rows : (readings : List ℤ) (w : List ℕ) (m : Result Refusal Term) (n p : ℕ) → ◌≡◌ {A = Result Refusal ℕ} (err (n, p)) (m >>= λ t. ok (size t)) → ◌≡◌ {A = AnswerAndStore} (refused n p, w) (run_into set readings w m)
  unfolding run_into ◌>>=◌
  refused_rows readings w (ok t) n p q = let z : ◌≡◌ {A = ℕ} 0 1 = cc in absurd (omega arith)
  refused_rows readings w (err e) n p q = let z : ◌≡◌ {A = Refusal} (n, p) e = cc in ap (λ (x : Refusal). (refused x.0 x.1, w)) z

  judged_decoded : (rows : List ℕ) → in_ranges set ≡ true → length rows ≡ row_numbers set → judged_of set rows ≡ (decode set rows >>= λ t. ok (size t))
  unfolding judged_of rows_tree need ◌>>=◌
  judged_decoded rows i a = rw (i, eq-eqb (length rows) (row_numbers set) a)

  module _ (rows : List ℕ) (readings : List ℤ) (w : List ℕ) where
    pub unfit_refused : (e : answer.Refusal) → run_fits set rows readings w ≡ err (number_of e.reason, e.place) → ◌≡◌ {A = AnswerAndStore} (told_unchecked (Err (out.Refused e)), w) (unchecked_of set rows readings w)
    unfolding told_unchecked unchecked_of run_into runnable ◌>>=◌
    unfit_refused e h = rw h

    module _ (i : in_ranges set ≡ true) (a : length rows ≡ row_numbers set) (b : length w ≡ store_numbers set) (c : length readings ≡ 8) where
      runs_decoded : runnable set rows readings w ≡ decode set rows
      unfolding runnable run_fits need ◌>>=◌
      runs_decoded = rw (i, eq-eqb (length rows) (row_numbers set) a, eq-eqb (length w) (store_numbers set) b, eq-eqb (length readings) 8 c)

      -- The rows are refused.
      pub rows_refused : (e : answer.Refusal) → told (λ (n : ℕ). n) (Err e) ≡ judged_of set rows → ◌≡◌ {A = AnswerAndStore} (told_unchecked (Err (out.Refused e)), w) (unchecked_of set rows readings w)
      unfolding told_unchecked unchecked_of
      rows_refused e q = go (decode set rows) (q ∙ judged_decoded rows i a) ∙ ap (run_into set readings w) (sym runs_decoded)
        where
          go : (m : Result Refusal Term) → ◌≡◌ {A = Result Refusal ℕ} (err (number_of e.reason, e.place)) (m >>= λ t. ok (size t)) → ◌≡◌ {A = AnswerAndStore} (refused (number_of e.reason) e.place, w) (run_into set readings w m)
          go m q = refused_rows readings w m (number_of e.reason) e.place q

      -- They are accepted.
      module _ (words : (j : ℕ) → get_or rows j 0 < 4294967296) (terms : ℕ) (q : ok terms ≡ judged_of set rows) where
        script : (t : Term) × (decode set rows ≡ ok t)
        script = accepted_rows (decode set rows) terms (q ∙ judged_decoded rows i a)

        runs : Runnable set rows script.0
        runs = judged set rows script.0 words a script.1

        script_judged : ScriptReady set rows readings w
        unfolding boxes_by
        script_judged = record {
          ranges = i;
          long = a;
          eight = c;
          size = b;
          root = runs.root;
          is = rw runs.is tt;
          cells = rw runs.is runs.cells;
        }

        script_is : script_ran set rows readings ≡ unchecked_of set rows readings w
        unfolding script_ran script_on unchecked_of run_into
        script_is = rw runs.is (sym (ap (run_into set readings w) (runs_decoded ∙ script.1)))

  -- That the rows were judged, and the lengths, are all that the run asks.
  module _ (rows : List ℕ) (readings : List ℤ) (w : List ℕ) (g : RunReady set rows readings w) where
    decoded : (t : Term) × Decoded set rows t
    unfolding judged_of
    decoded =
        let q = then (rows_tree set rows) (λ t. ok (size t)) g.terms g.judged in
        (q.0, tree_decoded set rows q.0 q.1)

    pub run_inside : in_ranges set ≡ true
    run_inside = decoded.1.ranges

    pub run_ranged : Ranged set
    run_ranged = ranged set run_inside

    module _ (words : (j : ℕ) → get_or rows j 0 < 4294967296) where
      run_ready : ScriptReady set rows readings w
      run_ready = script_judged rows readings w decoded.1.ranges decoded.1.length g.size g.eight words g.terms (sym g.judged)

      run_is : script_ran set rows readings ≡ unchecked_of set rows readings w
      run_is = script_is rows readings w decoded.1.ranges decoded.1.length g.size g.eight words g.terms (sym g.judged)

  -- ---- the run of judged rows

  module _ (rows : List ℕ) (readings : List ℤ) (w : List ℕ) (ready : RunReady set rows readings w) (words : (j : ℕ) → get_or rows j 0 < 4294967296) (w₁ : List ℕ) (e : w₁ ≡ zeros (length w)) where
    g : ScriptReady set rows readings w
    g = run_ready rows readings w ready words

    zeroed : w₁ ≡ zeros (store_numbers set)
    zeroed = e ∙ ap zeros g.size

    closed_now : store_of set w₁ ≡ (λ l. closed)
    closed_now = cleared_store set w₁ zeroed

    script_ready : (opened : List ℕ) → set.terms ≤ length opened → TermReady set rows 0 set.levels readings w₁ opened 0 0
    script_ready opened h = record {
      ready = record {
        long = g.long;
        eight = g.eight;
        many = h;
        tidy = cleared_tidy set w₁ g.ranges zeroed;
        ordered = λ c l. ap (λ (S : Store). S (cell c)) closed_now;
        few = omega arith;
        listed = λ k l. absurd (omega arith);
      };
      is = g.is;
      cells = let a = g.cells in omega arith;
    }

    module _ (opened : List ℕ) (h : set.terms ≤ length opened) where
      pub script_begins : BlockReady set rows 0 (set.levels - 1) readings w₁ opened 0 0
      script_begins = block_ready set rows 0 set.levels readings w₁ opened 0 0 (script_ready opened h) g.root

      -- How the outermost block can end.
      module _ (w₃ opened₃ : List ℕ) where
        ran : (r : Stands) → TermRan set rows 0 set.levels readings w₁ opened 0 0 w₃ opened₃ r → stood set w₃ opened₃ 0 r ≡ run_at readings (tree_at set.variables set.levels rows 0) start
        unfolding since
        ran r t = t.is 0 (omega arith) ∙ ap (λ (S : Store). run_at readings (tree_at set.variables set.levels rows 0) (record { store = S; taken = 0; opened = [] })) closed_now

        -- A fault of a term, or of the closing.
        ends_faulted : (e : answer.Refusal) → TermRan set rows 0 set.levels readings w₁ opened 0 0 w₃ opened₃ (Err e) → ◌≡◌ {A = AnswerAndStore} (told_ran (Err e), w₃) (unchecked_of set rows readings w)
        unfolding script_ran told_ran
        ends_faulted e t = tree_faults readings w₃ t.tidy.words (tree_at set.variables set.levels rows 0) g.is (number_of e.reason) e.place (ran (Err e) t) ∙ run_is rows readings w ready words

        module _ (r : Standing) (t : TermRan set rows 0 set.levels readings w₁ opened 0 0 w₃ opened₃ (Ok r)) where
          -- The answer is no number.
          ends_wrong : ((n : ℕ) → r.value ≡ value.Number n → ⊥) → ◌≡◌ {A = AnswerAndStore} (told_ran (Err (record { reason = WrongKind; place = 0 })), w₃) (unchecked_of set rows readings w)
          unfolding script_ran told_ran
          ends_wrong k = tree_wrong readings w₃ t.tidy.words opened₃ r (tree_at set.variables set.levels rows 0) g.is (ran (Ok r) t) k ∙ run_is rows readings w ready words

          -- The answer.
          ends_answered : (p : ℕ) → r.value ≡ value.Number p → (a : ℤ) → a ≡ to_z w32 p → ◌≡◌ {A = AnswerAndStore} (told_ran (Ok (record { answer = a; cells = r.taken })), w₃) (unchecked_of set rows readings w)
          unfolding script_ran told_ran
          ends_answered p k a ea = rw ea ((tree_answers readings w₃ t.tidy.words opened₃ r (tree_at set.variables set.levels rows 0) g.is (ran (Ok r) t) p k) ∙ run_is rows readings w ready words)

      module _ (w₂ opened₂ : List ℕ) where
        module _ (inner : Stands) (t : BlockRan set rows 0 (set.levels - 1) readings w₁ opened 0 0 w₂ opened₂ inner) where
          pub script_closes : length opened₂ ≡ length opened → IfOk inner (λ s. EndReady set w₂ opened₂ 0 s)
          script_closes long = block_ending set rows 0 set.levels readings w₁ opened 0 0 (script_ready opened h) g.root w₂ opened₂ inner t long

          -- What the end of the outermost block answers, and leaves.
          abbrev Ended : List ℕ → Stands → Type 0
          Ended w₃ r = MatchResult inner (λ s. BlockClosed set w₂ opened₂ 0 0 s w₃ r) (λ e. (r ≡ Err e) × (w₃ ≡ w₂))

          module _ (w₃ : List ℕ) where
            term_ran : (r : Stands) → Ended w₃ r → TermRan set rows 0 set.levels readings w₁ opened 0 0 w₃ opened₂ r
            term_ran r b = block_returns set rows 0 set.levels readings w₁ opened 0 0 (script_ready opened h) g.root w₂ opened₂ inner t w₃ r b

            pub script_faults : (e : answer.Refusal) → Ended w₃ (Err e) → ◌≡◌ {A = AnswerAndStore} (told_ran (Err e), w₃) (unchecked_of set rows readings w)
            script_faults e b = ends_faulted w₃ opened₂ e (term_ran (Err e) b)

            module _ (r : Standing) (b : Ended w₃ (Ok r)) where
              pub script_wrong : ((n : ℕ) → r.value ≡ value.Number n → ⊥) → ◌≡◌ {A = AnswerAndStore} (told_ran (Err (record { reason = WrongKind; place = 0 })), w₃) (unchecked_of set rows readings w)
              script_wrong k = ends_wrong w₃ opened₂ r (term_ran (Ok r) b) k

              pub script_answers : (p : ℕ) → r.value ≡ value.Number p → (a : ℤ) → a ≡ to_z w32 p → ◌≡◌ {A = AnswerAndStore} (told_ran (Ok (record { answer = a; cells = r.taken })), w₃) (unchecked_of set rows readings w)
              script_answers p k a ea = ends_answered w₃ opened₂ r (term_ran (Ok r) b) p k a ea
