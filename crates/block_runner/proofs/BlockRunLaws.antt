-- The terms of a block in rows: a turn of its loop, and the block as a term.
use Prim.Native.Nat.{ℕ, zero, suc, ◌+◌, ◌-◌, ◌≤◌, ◌<◌}
use native.Mathlib.Omega.{arith}
use native.Mathlib.Numerals.{sub-one}
use mathlib.Core.Path.{◌≡◌, refl, sym, ap, ◌∙◌}
use mathlib.Core.Option.{none, some}
use mathlib.Core.List.{List, []}
use lib.IntN.{ℤ}
use lib.ListN.{length}
use Rattle.std.specs.Prelude.{Result, Ok, Err, IfOk, MatchResult}
use Rattle.syntax.specs.Limits.{Limits}
use Rattle.syntax.specs.declared.refusals.Reason.{Reason}
use Rattle.syntax.specs.declared.refusals.Refusal.{Refusal}
use Rattle.syntax.specs.Result.{ok, err, ◌>>=◌}
use Rattle.syntax.specs.Script.{Term, Terms, block, last, more}
use Rattle.syntax.specs.Measures.{boxes_in, boxes_all}
use Rattle.syntax.specs.RowParts.{field_at}
use Rattle.syntax.specs.RowTrees.{RowTree, IsTree, around, before, several_at, terms_at, IsRest, tree_at}
use Rattle.syntax.proofs.RowTreeLaws.{around_inner, rest_first, block_is, block_inner, block_rest}
use Rattle.dynamics.specs.Values.{empty}
use Rattle.dynamics.specs.Store.{State, Ran}
use Rattle.dynamics.specs.Drop.{InOrder, drop_value}
use Rattle.dynamics.specs.Run.{Outcome, run_block_end, run, runs}
use Rattle.dynamics.specs.Readings.{bits_of}
use Rattle.store.specs.Words.{as_value, Sound}
use Rattle.store.specs.StoreParts.{state_at, left, Dropped, since}
use Rattle.term_runner.specs.LeafParts.{ran_on, run_on}
use Rattle.term_runner.specs.Parts.{Stop, seen, Stood, at_row, outcome, Stands, stood, sequel, entered_at, EndReady, BlockClosed, Opened, end_of, boxes_by, boxes_at, boxes_rest, stood_on, run_at, Ready, TermReady, TermRan, runs_at, rest_run, BlockReady, BlockRan}
use Rattle.term_runner.specs.declared.around.Standing.{Standing}
use Rattle.dynamics.proofs.DropLaws.{drop_empty}
use Rattle.dynamics.proofs.Kept.{keeps_ok}
use Rattle.dynamics.proofs.RunOrder.{runs_ordered}
use Rattle.store.proofs.CellLaws.{drop_ordered}
use Rattle.term_runner.proofs.AroundLaws.{since_kept}
use Rattle.block_runner.proofs.TermLaws.{around_run, around_cells, went_well, same_ran, term_fine, term_taken, term_room, next_ready}

-- ---- what is left of a block, in rows

-- After its first term.
before_rest : (d : RowTree Term) (k : ℕ → RowTree Terms) → IsTree (before d k) → IsTree (k (end_of d))
unfolding end_of
before_rest none k h = absurd h
before_rest (some r) k h = around_inner (more r.0) (k r.1) h

before_cells : (d : RowTree Term) (k : ℕ → RowTree Terms) → IsTree (before d k) → boxes_by boxes_all (before d k) ≡ boxes_at d + boxes_by boxes_all (k (end_of d))
unfolding end_of boxes_by boxes_all
before_cells none k h = absurd h
before_cells (some r) k h = around_cells (more r.0) boxes_all boxes_all (boxes_in r.0) (λ ts. refl) (k r.1) (around_inner (more r.0) (k r.1) h)

module _ (f : ℕ → RowTree Term) where
  rest_asks : (n at : ℕ) → 0 < n → IsRest f n at → IsRest f (n - 1) (end_of (f at))
  unfolding several_at
  rest_asks zero at b h = absurd (omega arith)
  rest_asks (suc zero) at b h = tt
  rest_asks (suc (suc n)) at b h = rw sub-one (before_rest (f at) (several_at f n) h)

  rest_cells : (n at : ℕ) → 0 < n → IsRest f n at → boxes_rest f n at ≡ boxes_at (f at) + boxes_rest f (n - 1) (end_of (f at))
  unfolding terms_at several_at boxes_by boxes_all
  rest_cells zero at b h = absurd (omega arith)
  rest_cells (suc zero) at b h = omega (arith, around_cells last boxes_in boxes_all 0 (λ t. omega arith) (f at) (around_inner last (f at) h))
  rest_cells (suc (suc n)) at b h = rw sub-one (before_cells (f at) (several_at f n) h)

-- ---- the run of what is left

-- A fault goes onwards, whatever follows.
stop_here : (m : Ran Outcome) (o : Stop) (j k : ℕ) (f : Outcome → Ran Outcome) → ◌≡◌ {A = Stood} (err o) (at_row j (seen m)) → ◌≡◌ {A = Stood} (err o) (at_row k (seen (m >>= f)))
unfolding at_row seen ◌>>=◌
stop_here (ok a) o j k f e = let z : ◌≡◌ {A = ℕ} 0 1 = cc in absurd (omega arith)
stop_here (err x) o j k f e = e

module _ (readings : List ℤ) (i : ℕ) where
  -- Block i's terms after the first, whose outcome is o.
  abbrev after_first : Terms → Outcome → Ran Outcome
  after_first ts o = drop_value i o.0 o.1 >>= λ s. runs (bits_of readings) ts i s

  module _ (s : State) where
    last_run : (d : RowTree Term) → IsTree d → runs_at readings i (around last d) s ≡ run_at readings d s
    unfolding stood_on ran_on end_of runs
    last_run none h = absurd h
    last_run (some r) h = refl

    last_go : (d : RowTree Term) (o : Outcome) → IsTree d → run_on readings d s ≡ ok o → ◌≡◌ {A = Stood} (ok (o, end_of d)) (runs_at readings i (around last d) s)
    unfolding stood_on seen at_row
    last_go d o h e = sym (last_run d h ∙ rw e)

    more_stop : (t : Term) (j : ℕ) (ds : RowTree Terms) (o : Stop) → IsTree ds → ◌≡◌ {A = Stood} (err o) (at_row j (seen (run (bits_of readings) t s))) → ◌≡◌ {A = Stood} (err o) (runs_at readings i (around (more t) ds) s)
    unfolding stood_on ran_on end_of runs
    more_stop t j none o h e = absurd h
    more_stop t j (some q) o h e = stop_here (run (bits_of readings) t s) o j q.1 (after_first q.0) e

    before_stop : (d : RowTree Term) (k : ℕ → RowTree Terms) (o : Stop) → IsTree (before d k) → ◌≡◌ {A = Stood} (err o) (run_at readings d s) → ◌≡◌ {A = Stood} (err o) (runs_at readings i (before d k) s)
    unfolding stood_on ran_on end_of
    before_stop none k o h e = absurd h
    before_stop (some r) k o h e = more_stop r.0 r.1 (k r.1) o (around_inner (more r.0) (k r.1) h) e

    more_go : (t : Term) (ds : RowTree Terms) (o : Outcome) → IsTree ds → run (bits_of readings) t s ≡ ok o → (seen (drop_value i o.0 o.1) >>= λ s'. runs_at readings i ds s') ≡ runs_at readings i (around (more t) ds) s
    unfolding stood_on ran_on end_of runs seen at_row ◌>>=◌
    more_go t none o h e = absurd h
    more_go t (some q) o h e = go (drop_value i o.0 o.1) ∙ sym (rw e)
      where
        go : (m : Ran State) → (seen m >>= λ s'. at_row q.1 (seen (runs (bits_of readings) q.0 i s'))) ≡ at_row q.1 (seen (m >>= λ s'. runs (bits_of readings) q.0 i s'))
        go (ok a) = refl
        go (err x) = refl

    before_go : (d : RowTree Term) (k : ℕ → RowTree Terms) (o : Outcome) → IsTree (before d k) → run_on readings d s ≡ ok o → (seen (drop_value i o.0 o.1) >>= λ s'. runs_at readings i (k (end_of d)) s') ≡ runs_at readings i (before d k) s
    unfolding ran_on end_of
    before_go none k o h e = absurd h
    before_go (some r) k o h e = more_go r.0 (k r.1) o (around_inner (more r.0) (k r.1) h) e

    module _ (f : ℕ → RowTree Term) where
      -- What is left begins with a fault.
      rest_stop : (n at : ℕ) (o : Stop) → 0 < n → IsRest f n at → ◌≡◌ {A = Stood} (err o) (run_at readings (f at) s) → ◌≡◌ {A = Stood} (err o) (runs_at readings i (several_at f (n - 1) at) s)
      unfolding several_at
      rest_stop zero at o b h e = absurd (omega arith)
      rest_stop (suc zero) at o b h e = e ∙ sym (last_run (f at) (around_inner last (f at) h))
      rest_stop (suc (suc n)) at o b h e = rw sub-one (before_stop (f at) (several_at f n) o h e)

      -- It begins with a term that has an outcome.
      rest_go : (n at : ℕ) (o : Outcome) → 0 < n → IsRest f n at → run_on readings (f at) s ≡ ok o → rest_run readings f i (n - 1) (end_of (f at)) o ≡ runs_at readings i (several_at f (n - 1) at) s
      unfolding several_at rest_run
      rest_go zero at o b h e = absurd (omega arith)
      rest_go (suc zero) at o b h e = last_go (f at) o (around_inner last (f at) h) e
      rest_go (suc (suc n)) at o b h e = rw sub-one (before_go (f at) (several_at f n) o h e)

  rest_drop : (f : ℕ → RowTree Term) (n at : ℕ) (o : Outcome) → 0 < n → rest_run readings f i n at o ≡ (seen (drop_value i o.0 o.1) >>= λ s. runs_at readings i (several_at f (n - 1) at) s)
  unfolding rest_run
  rest_drop f zero at o b = absurd (omega arith)
  rest_drop f (suc n) at o b = rw sub-one

-- The first term of a block drops no value.
terms_run : (readings : List ℤ) (f : ℕ → RowTree Term) (i n at : ℕ) (s : State) → IsTree (terms_at f n at) → rest_run readings f i n at (s, empty) ≡ runs_at readings i (terms_at f n at) s
unfolding rest_run terms_at seen ◌>>=◌
terms_run readings f i zero at s h = absurd h
terms_run readings f i (suc n) at s h = rw (drop_empty i s)

module _ (set : Limits) where
  -- ---- a turn of the block's loop

  -- Where the loop stands: `left` terms after the term whose outcome `last` tells.
  pub record Going (rows : List ℕ) (block levels : ℕ) (readings : List ℤ) (w₀ opened₀ : List ℕ) (n taken : ℕ) (w opened : List ℕ) (left : ℕ) (last : Standing) : Type 0 where
    pub same : length opened ≡ length opened₀
    pub ready : Ready set rows last.next readings w opened last.opened last.taken
    pub sound : Sound set last.value
    pub opens : Opened set opened₀ opened n last.opened (block + 1) last.next
    pub rest : IsRest (tree_at set.variables levels rows) left last.next
    pub cells : last.taken + boxes_rest (tree_at set.variables levels rows) left last.next ≤ set.boxes
    pub is : rest_run readings (tree_at set.variables levels rows) block left last.next (outcome set w opened n last) ≡ rest_run readings (tree_at set.variables levels rows) block (field_at rows block 1) (block + 1) (state_at set w₀ taken [], empty)

  module _ (rows : List ℕ) (block levels : ℕ) (readings : List ℤ) (w₀ opened₀ : List ℕ) (n taken : ℕ) where
    first_outcome : ◌≡◌ {A = Outcome} (outcome set w₀ opened₀ n (entered_at (block + 1) n taken)) (state_at set w₀ taken [], empty)
    unfolding since
    first_outcome = let z : n - n ≡ 0 = omega arith in rw z

    pub going_starts : (l : ℕ) → l ≡ field_at rows block 1 → BlockReady set rows block levels readings w₀ opened₀ n taken → Going rows block levels readings w₀ opened₀ n taken w₀ opened₀ l (entered_at (block + 1) n taken)
    going_starts l el g = rw el (record {
      same = refl;
      ready = g.ready;
      sound = tt;
      opens = record { kept = λ k h. refl; more = omega arith; few = omega arith; listed = g.ready.listed; room = let z = g.room in omega arith };
      rest = g.is;
      cells = g.cells;
      is = ap (rest_run readings (tree_at set.variables levels rows) block (field_at rows block 1) (block + 1)) first_outcome;
    })

    module _ (w opened : List ℕ) (left₁ : ℕ) (last : Standing) (g : Going rows block levels readings w₀ opened₀ n taken w opened left₁ last) where
      pub going_ends : left₁ ≤ 0 → BlockRan set rows block levels readings w₀ opened₀ n taken w opened (Ok last)
      unfolding rest_run
      going_ends h = record {
        tidy = g.ready.tidy;
        is =
            ap (λ (m : ℕ). rest_run readings (tree_at set.variables levels rows) block m last.next (outcome set w opened n last)) (let z : 0 ≡ left₁ = omega arith in z)
            ∙ g.is;
        sound = g.sound;
        opens = g.opens;
      }

      module _ (any : 0 < left₁) (w₁ : List ℕ) where
        turn : (r : Result (Unit {0}) Reason) → Dropped set w last.value w₁ r → (seen (left set w₁ last.taken (since opened n (last.opened - n)) block r) >>= λ s. runs_at readings block (several_at (tree_at set.variables levels rows) (left₁ - 1) last.next) s)
            ≡ rest_run readings (tree_at set.variables levels rows) block (field_at rows block 1) (block + 1) (state_at set w₀ taken [], empty)
        turn r d =
            ap (λ (x : Ran State). seen x >>= λ s. runs_at readings block (several_at (tree_at set.variables levels rows) (left₁ - 1) last.next) s) (d.is block last.taken (since opened n (last.opened - n)) g.ready.ordered)
            ∙ sym (rest_drop readings block (tree_at set.variables levels rows) left₁ last.next (outcome set w opened n last) any)
            ∙ g.is

        -- The drop faults.
        pub going_drops : (x : Reason) → Dropped set w last.value w₁ (Err x) → BlockRan set rows block levels readings w₀ opened₀ n taken w₁ opened (Err (record { reason = x; place = block }))
        unfolding seen ◌>>=◌
        going_drops x d = record { tidy = d.tidy; is = turn (Err x) d; sound = tt; opens = tt }

        module _ (u : Unit {0}) (d : Dropped set w last.value w₁ (Ok u)) where
          gone : runs_at readings block (several_at (tree_at set.variables levels rows) (left₁ - 1) last.next) (state_at set w₁ last.taken (since opened n (last.opened - n)))
              ≡ rest_run readings (tree_at set.variables levels rows) block (field_at rows block 1) (block + 1) (state_at set w₀ taken [], empty)
          unfolding seen ◌>>=◌
          gone = turn (Ok u) d

          ordered₁ : InOrder (state_at set w₁ last.taken [])
          ordered₁ = drop_ordered block (state_at set w last.taken (since opened n (last.opened - n))) (as_value set last.value) g.ready.ordered (state_at set w₁ last.taken (since opened n (last.opened - n)))
              (sym (d.is block last.taken (since opened n (last.opened - n)) g.ready.ordered))

          cells_now : last.taken + (boxes_at (tree_at set.variables levels rows last.next) + boxes_rest (tree_at set.variables levels rows) (left₁ - 1) (end_of (tree_at set.variables levels rows last.next))) ≤ set.boxes
          cells_now = let a = g.cells in let b = rest_cells (tree_at set.variables levels rows) left₁ last.next any g.rest in omega arith

          pub turn_ready : TermReady set rows last.next levels readings w₁ opened last.opened last.taken
          turn_ready = record {
            ready = record { long = g.ready.long; eight = g.ready.eight; many = g.ready.many; tidy = d.tidy; ordered = ordered₁; few = g.ready.few; listed = g.ready.listed };
            is = rest_first (tree_at set.variables levels rows) left₁ last.next any g.rest;
            cells = let a = cells_now in omega arith;
          }

          module _ (w₂ opened₂ : List ℕ) where
            -- The term faults.
            pub going_stops : (x : Refusal) → TermRan set rows last.next levels readings w₁ opened last.opened last.taken w₂ opened₂ (Err x) → BlockRan set rows block levels readings w₀ opened₀ n taken w₂ opened₂ (Err x)
            unfolding stood_on
            going_stops x t = record {
              tidy = t.tidy;
              is =
                  rest_stop readings block (state_at set w₁ last.taken (since opened n (last.opened - n))) (tree_at set.variables levels rows) left₁ last.next _ any g.rest (t.is n g.opens.more)
                  ∙ gone;
              sound = tt;
              opens = tt;
            }

            -- The term has an outcome.
            module _ (r : Standing) (t : TermRan set rows last.next levels readings w₁ opened last.opened last.taken w₂ opened₂ (Ok r)) where
              stood_is : stood set w₂ opened₂ n (Ok r) ≡ run_at readings (tree_at set.variables levels rows last.next) (state_at set w₁ last.taken (since opened n (last.opened - n)))
              stood_is = t.is n g.opens.more

              pub going_goes : length opened₂ ≡ length opened → (left₂ : ℕ) → left₂ ≡ left₁ - 1 → Going rows block levels readings w₀ opened₀ n taken w₂ opened₂ left₂ r
              going_goes long left₂ e = rw e (
                  let o = t.opens in
                  let x = went_well set readings (tree_at set.variables levels rows last.next) (state_at set w₁ last.taken (since opened n (last.opened - n))) w₂ opened₂ n r stood_is in
                  let f = term_fine set rows last.next levels readings w₁ opened last.opened last.taken turn_ready w₂ opened₂ r t in
                  let k = term_taken set rows last.next levels readings w₁ opened last.opened last.taken turn_ready w₂ opened₂ r t in
                  let c = cells_now in
                  let a = g.opens in
                  let a₁ = a.more in
                  let a₂ = a.few in
                  let o₁ = o.more in
                  let o₂ = o.few in
                  let b = g.ready.few in
                  record {
                    same = long ∙ g.same;
                    ready = record { long = g.ready.long; eight = g.ready.eight; many = omega (arith, g.ready.many); tidy = t.tidy; ordered = f.ordered; few = omega arith; listed = o.listed };
                    sound = f.sound;
                    opens = record { kept = λ j h. o.kept j (omega arith) ∙ a.kept j h; more = omega arith; few = omega arith; listed = o.listed; room = o.room };
                    rest = rw x.end (rest_asks (tree_at set.variables levels rows) left₁ last.next any g.rest);
                    cells = rw x.end (omega arith);
                    is =
                        ap (λ (j : ℕ). rest_run readings (tree_at set.variables levels rows) block (left₁ - 1) j (outcome set w₂ opened₂ n r)) x.end
                        ∙ rest_go readings block (state_at set w₁ last.taken (since opened n (last.opened - n))) (tree_at set.variables levels rows) left₁ last.next (outcome set w₂ opened₂ n r) any g.rest x.ran
                        ∙ gone;
                  })

  -- ---- the block as a term

  module _ (rows : List ℕ) (i levels : ℕ) (readings : List ℤ) (w opened : List ℕ) (n taken : ℕ) (g : TermReady set rows i levels readings w opened n taken)
      (e : field_at rows i 0 ≡ 11) where
    abbrev terms : RowTree Terms
    terms = terms_at (tree_at set.variables (levels - 1) rows) (field_at rows i 1) (i + 1)

    asks : IsTree terms
    asks = block_inner set.variables levels rows i g.is e

    is_block : tree_at set.variables levels rows i ≡ around (block i) terms
    is_block = block_is set.variables levels rows i g.is e

    pub block_ready : BlockReady set rows i (levels - 1) readings w opened n taken
    unfolding boxes_in
    block_ready = record {
      ready = next_ready set rows i readings w opened n taken g.ready;
      room = omega (arith, term_room set rows i levels readings w opened n taken g);
      is = block_rest set.variables levels rows i g.is e (field_at rows i 1) refl;
      cells = omega (arith, g.cells, ap boxes_at is_block, around_cells (block i) boxes_all boxes_in 0 (λ ts. omega arith) terms asks);
    }

    runs_is : (w₁ opened₁ : List ℕ) (inner : Stands) → BlockRan set rows i (levels - 1) readings w opened n taken w₁ opened₁ inner → stood set w₁ opened₁ n inner ≡ runs_at readings i terms (state_at set w taken [])
    runs_is w₁ opened₁ inner t = t.is ∙ terms_run readings (tree_at set.variables (levels - 1) rows) i (field_at rows i 1) (i + 1) (state_at set w taken []) asks

    -- What its end makes of the outcome of its terms.
    ended_is : (w₁ opened₁ : List ℕ) (inner : Stands) → BlockRan set rows i (levels - 1) readings w opened n taken w₁ opened₁ inner → (begin : ℕ)
        → sequel (stood set w₁ opened₁ n inner) (λ o. run_block_end i (since opened begin (n - begin)) o) ≡ run_at readings (tree_at set.variables levels rows i) (state_at set w taken (since opened begin (n - begin)))
    unfolding run
    ended_is w₁ opened₁ inner t begin =
        ap (λ (m : Stood). sequel m (λ o. run_block_end i (since opened begin (n - begin)) o)) (runs_is w₁ opened₁ inner t)
        ∙ around_run readings (block i) (λ ts. runs (bits_of readings) ts i) (λ o. run_block_end i (since opened begin (n - begin)) o) (state_at set w taken (since opened begin (n - begin))) (state_at set w taken []) (λ ts. refl) terms asks
        ∙ ap (λ (d : RowTree Term). run_at readings d (state_at set w taken (since opened begin (n - begin)))) (sym is_block)

    -- A fault of its terms goes onwards.
    block_stops : (w₁ opened₁ : List ℕ) (x : Refusal) → BlockRan set rows i (levels - 1) readings w opened n taken w₁ opened₁ (Err x) → TermRan set rows i levels readings w opened n taken w₁ opened₁ (Err x)
    unfolding sequel
    block_stops w₁ opened₁ x t = record { tidy = t.tidy; is = λ begin h. ended_is w₁ opened₁ (Err x) t begin; sound = tt; opens = tt }

    module _ (w₁ opened₁ : List ℕ) (inner : Standing) (t : BlockRan set rows i (levels - 1) readings w opened n taken w₁ opened₁ (Ok inner)) where
      runs_fine : (ds : RowTree Terms) → IsTree ds → stood set w₁ opened₁ n (Ok inner) ≡ runs_at readings i ds (state_at set w taken []) → InOrder (state_at set w₁ inner.taken [])
      unfolding stood_on ran_on end_of
      runs_fine none h q = absurd h
      runs_fine (some r) h q =
          keeps_ok (runs_ordered (bits_of readings) r.0 i (state_at set w taken []) g.ready.ordered) (outcome set w₁ opened₁ n inner) (same_ran (runs (bits_of readings) r.0 i (state_at set w taken [])) (outcome set w₁ opened₁ n inner) inner.next r.1 q).0

      ending_ready : length opened₁ ≡ length opened → EndReady set w₁ opened₁ n inner
      ending_ready long = record {
        ready = record { tidy = t.tidy; fine = record { sound = t.sound; ordered = runs_fine terms asks (runs_is w₁ opened₁ (Ok inner) t) } };
        listed = t.opens.listed;
        begun = t.opens.more;
        few = let o = t.opens in let a = o.few in let b = o.room in let c = g.ready.few in let d = g.ready.many in omega arith;
      }

      closed_is : (w₂ : List ℕ) (r : Stands) → BlockClosed set w₁ opened₁ i n inner w₂ r → (begin : ℕ) → begin ≤ n → stood set w₂ opened₁ begin r ≡ run_at readings (tree_at set.variables levels rows i) (state_at set w taken (since opened begin (n - begin)))
      closed_is w₂ r b begin h =
          b.is begin
          ∙ ap (λ (l : List ℕ). sequel (stood set w₁ opened₁ n (Ok inner)) (λ o. run_block_end i l o)) (since_kept opened₁ opened begin n h t.opens.kept)
          ∙ ended_is w₁ opened₁ (Ok inner) t begin

      closed_returns : (w₂ : List ℕ) (r : Stands) → BlockClosed set w₁ opened₁ i n inner w₂ r → TermRan set rows i levels readings w opened n taken w₂ opened₁ r
      closed_returns w₂ (Ok r) b = record {
        tidy = b.tidy;
        is = closed_is w₂ (Ok r) b;
        sound = b.went.sound;
        opens =
            let o = t.opens in
            let a = o.few in
            let m = o.more in
            let c = b.count in
            let q = b.went.next in
            record { kept = o.kept; more = omega arith; few = omega arith; listed = λ k h. o.listed k (omega arith); room = rw q o.room };
      }
      closed_returns w₂ (Err x) b = record { tidy = b.tidy; is = closed_is w₂ (Err x) b; sound = tt; opens = tt }

    -- Its end, which is handed a fault of its terms too.
    pub block_ending : (w₁ opened₁ : List ℕ) (inner : Stands) → BlockRan set rows i (levels - 1) readings w opened n taken w₁ opened₁ inner → length opened₁ ≡ length opened → IfOk inner (λ s. EndReady set w₁ opened₁ n s)
    block_ending w₁ opened₁ (Ok s) t long = ending_ready w₁ opened₁ s t long
    block_ending w₁ opened₁ (Err x) t long = tt

    pub block_returns : (w₁ opened₁ : List ℕ) (inner : Stands) → BlockRan set rows i (levels - 1) readings w opened n taken w₁ opened₁ inner → (w₂ : List ℕ) (r : Stands)
        → MatchResult inner (λ s. BlockClosed set w₁ opened₁ i n s w₂ r) (λ e. (r ≡ Err e) × (w₂ ≡ w₁)) → TermRan set rows i levels readings w opened n taken w₂ opened₁ r
    block_returns w₁ opened₁ (Ok s) t w₂ r b = closed_returns w₁ opened₁ s t w₂ r b
    block_returns w₁ opened₁ (Err x) t w₂ r b = rw (b.0, b.1) (block_stops w₁ opened₁ x t)
