-- A script that is accepted under one set of limits is accepted under every set that is nowhere smaller, with the same terms, answer and cells
-- (LANGUAGE 2.8, 7.7): reading gives the same tree, the judge says the same of it, and no set is in its run.
use Prim.Native.Nat.{ℕ, ◌≤◌, ◌-◌}
use mathlib.Core.Path.{◌≡◌, refl, sym, ap, ap₂, ◌∙◌, subst}
use mathlib.Core.Bool.{true}
use mathlib.Core.List.{List, ◌++◌}
use lib.IntN.{ℤ}
use lib.ListN.{length}
use mir.Syntax.{w32}
use mir.Val.{to_z}
use borrow.Author.Tests.{le-leb, eq-eqb}
use Rattle.syntax.specs.Result.{Result, ok, err, need, Refusal, ◌>>=◌}
use Rattle.syntax.specs.Limits.{Limits, in_ranges, max_bytes, row_numbers, store_numbers}
use Rattle.syntax.specs.Larger.{NoSmaller}
use Rattle.syntax.specs.Script.{Term}
use Rattle.syntax.specs.Layout.{zeros, rows_of}
use Rattle.syntax.specs.Measures.{size}
use Rattle.syntax.specs.Within.{Within}
use Rattle.syntax.specs.Kinds.{newest}
use Rattle.syntax.specs.Answers.{Told, lengths_fit, read_of, rows_tree, judged_of}
use Rattle.syntax.proofs.Answers.{then}
use Rattle.syntax.proofs.RoundTrip.{decoded}
use Rattle.syntax.proofs.MoreLimits.{within_more, allowed_more, rows_more}
use Rattle.reader.proofs.Undo.{read_says, reads_tree}
use Rattle.reader.proofs.Promise.{tree_decoded}
use Rattle.statics.specs.Judge.{judge_script}
use Rattle.ownership.specs.Answers.{check_of}
use Rattle.ownership.proofs.Accepted.{accepted, accepts}
use Rattle.dynamics.specs.Values.{closed}
use Rattle.dynamics.specs.Store.{State}
use Rattle.dynamics.specs.Answers.{run_fits}
use Rattle.dynamics.specs.Readings.{bits_of}
use Rattle.machine.proofs.FitLaws.{Fit}
use Rattle.safety.proofs.Larger as trees
use Rattle.room.specs.Running as running
use Rattle.room.specs.Running.{RunAnswer, answered, RunMade, run_of}
use Rattle.room.specs.Calling.{called, call_fits, with_terms, read_called, fit_called, call_of}
use Rattle.room.specs.Larger.{SameAgain, LargerScripts, LargerRows, SameChecks, LargerCalls, LargerSets}
use Rattle.room.proofs.TreeRows.{checks_tree, run_safe}
use Rattle.room.proofs.RunLaws.{check_refuses}
use Rattle.room.proofs.RunSafe.{answered_refused}
use Rattle.room.proofs.CallLaws.{fits_say}
use Rattle.room.proofs.CallSafe.{called_refused}

-- A call that answers: its lengths fit, its script is read, and the rows run.
record Answers (l : Limits) (script : List ℕ) (readings : List ℤ) (rows store : List ℕ) (n : ℕ) (a : ℤ) (c : ℕ) : Type 0 where
  pub few : length script ≤ max_bytes
  pub fit : Fit l rows readings store
  pub version : ℕ
  pub read : (read_of l newest script rows).0 ≡ ok (version, n)
  pub ran : (run_of l (read_of l newest script rows).1 readings store).0 ≡ answered a c

module _ (l : Limits) (script : List ℕ) (readings : List ℤ) (rows store : List ℕ) (n : ℕ) (a : ℤ) (c : ℕ) where
  terms_say : (k : ℕ) (r : RunAnswer) → with_terms k r ≡ called n a c → (k ≡ n) × (r ≡ answered a c)
  unfolding with_terms
  terms_say k (answered b d) h = (cc, cc)
  terms_say k (running.refused m p) h = called_refused (sym h)

  call_says : (call_of l script readings rows store).0 ≡ called n a c → Answers l script readings rows store n a c
  unfolding call_of fit_called read_called
  call_says = fit (call_fits l script readings rows store) refl
    where
      read : (length script ≤ max_bytes) × Fit l rows readings store → (r : Result Refusal Told) → (read_of l newest script rows).0 ≡ r
          → (read_called l readings store r (read_of l newest script rows).1).0 ≡ called n a c → Answers l script readings rows store n a c
      read f (ok k) e h =
          let s = terms_say k.1 (run_of l (read_of l newest script rows).1 readings store).0 h in
          record { few = f.0; fit = f.1; version = k.0; read = e ∙ ap (λ (m : ℕ). ok (k.0, m)) s.0; ran = s.1 }
      read f (err x) e h = called_refused (sym h)

      fit : (f : Result Refusal (Unit {0})) → call_fits l script readings rows store ≡ f
          → (fit_called f rows store (read_called l readings store (read_of l newest script rows).0 (read_of l newest script rows).1)).0 ≡ called n a c → Answers l script readings rows store n a c
      fit (ok x) g h = read (fits_say l script readings rows store x g) (read_of l newest script rows).0 refl h
      fit (err e) g h = called_refused (sym h)

-- A call whose lengths fit answers what reading and running answer.
module _ (l : Limits) (script : List ℕ) (readings : List ℤ) (rows store : List ℕ) where
  all_fit : in_ranges l ≡ true → length script ≤ max_bytes → length rows ≡ row_numbers l → length store ≡ store_numbers l → length readings ≡ 8
      → call_fits l script readings rows store ≡ ok tt
  unfolding call_fits lengths_fit run_fits need ◌>>=◌
  all_fit r few full long eight =
      rw (r, le-leb (length script) max_bytes few, eq-eqb (length rows) (row_numbers l) full, eq-eqb (length store) (store_numbers l) long, eq-eqb (length readings) 8 eight)

  call_answers : call_fits l script readings rows store ≡ ok tt → (v n : ℕ) (again : List ℕ) → read_of l newest script rows ≡ (ok (v, n), again) → (a : ℤ) (c : ℕ) → (run_of l again readings store).0 ≡ answered a c
      → (call_of l script readings rows store).0 ≡ called n a c
  unfolding call_of fit_called read_called with_terms
  call_answers f v n again e a c r = rw (f, e, r)

-- ---- the statements

module _ (l m : Limits) (le : NoSmaller l m) (r : in_ranges m ≡ true) where
  -- Of the tree of a script that is accepted under l.
  of_tree : (t : Term) → in_ranges l ≡ true → Within l t → judge_script l.variables t ≡ ok tt → SameAgain l m (rows_of l t) (size t) (rows_of m t)
  of_tree t q within judged =
      let K = (trees.larger_sets l m le).stays t within judged in
      record {
        laid = rows_more l m le t within;
        accepted = accepts m t r K.within K.judged;
        runs = λ readings store store' eight long long'.
            let S = K.same_end (bits_of readings) (λ x. closed) (λ x. closed) in
            record {
              answer = to_z w32 S.smaller.answer;
              cells = S.smaller.final.taken;
              smaller = ap (λ (k : RunMade). k.0) (run_safe l t q within readings store eight long S.smaller judged);
              larger = ap (λ (k : RunMade). k.0) (run_safe m t r K.within readings store' eight long' S.larger K.judged)
                  ∙ ap₂ (λ (v : ℕ) (s : State). answered (to_z w32 v) s.taken) S.answer S.final;
            };
      }

  -- The same, of rows and a count that are known to be the tree's.
  of_known : (t : Term) (rows : List ℕ) (n : ℕ) (again : List ℕ) → rows ≡ rows_of l t → n ≡ size t → again ≡ rows_of m t
      → in_ranges l ≡ true → Within l t → judge_script l.variables t ≡ ok tt → SameAgain l m rows n again
  of_known t rows n again laid count same q within judged =
      subst (λ (x : List ℕ). SameAgain l m rows n x) (sym same)
      (subst (λ (k : ℕ). SameAgain l m rows k (rows_of m t)) (sym count)
      (subst (λ (x : List ℕ). SameAgain l m x (size t) (rows_of m t)) (sym laid) (of_tree t q within judged)))

  -- A tree's rows with zeros behind them are its rows under m.
  again_rows : (t : Term) (rows : List ℕ) → rows ≡ rows_of l t → Within l t → rows ++ zeros (row_numbers m - row_numbers l) ≡ rows_of m t
  again_rows t rows laid within = ap (λ (x : List ℕ). x ++ zeros (row_numbers m - row_numbers l)) laid ∙ sym (rows_more l m le t within)

  scripts : LargerScripts l m
  scripts known script before v n rows others k u full h e =
      let q = read_says l known script before (v, n) rows u h in
      let t = q.1.term in
      let within = q.2.term in
      let c = then (judge_script l.variables t) (λ _. ok (size t)) k (sym (checks_tree l t q.0 within) ∙ ap (check_of l) (sym q.6) ∙ e) in
      let s : size t ≡ k = cc c.2 in
      let count : n ≡ size t = ap (λ (x : Told). x.1) q.5 in
      let reads : read_of m known script others ≡ (ok (v, n), rows_of m t) =
      ap (λ (x : List ℕ). read_of m known x others) q.4 ∙ reads_tree m known q.1 others r (allowed_more l m le q.1 q.2) q.3 full ∙ ap (λ (x : Told). (ok x, rows_of m t)) (sym q.5)
      in
      (sym s ∙ sym count, rows_of m t, reads, of_known t rows n (rows_of m t) q.6 count refl q.0 within c.1)

  of_rows : LargerRows l m
  of_rows rows n u e =
      let A = accepted l rows n u e in
      of_known A.script rows n _ A.laid A.terms (again_rows A.script rows A.laid A.within) A.ranges A.within A.judged

  verdicts : SameChecks l m
  unfolding judged_of
  verdicts rows n u h =
      let a = then (rows_tree l rows) (λ t. ok (size t)) n h in
      let t = a.0 in
      let c = tree_decoded l rows t a.1 in
      let d = decoded l rows t u c.length c.decodes in
      ap (check_of m) (again_rows t rows d.0 d.1) ∙ checks_tree m t r (within_more l m le t d.1)
      ∙ ap (λ (j : Result Refusal (Unit {0})). j >>= λ _. ok (size t)) ((trees.larger_sets l m le).verdict t d.1)
      ∙ sym (checks_tree l t c.ranges d.1) ∙ ap (check_of l) (sym d.0)

  -- A run that answers was accepted by the check.
  ran_accepted : (rows : List ℕ) (readings : List ℤ) (store : List ℕ) → length readings ≡ 8 → length store ≡ store_numbers l → (a : ℤ) (c : ℕ)
      → (run_of l rows readings store).0 ≡ answered a c → (k : ℕ) × (check_of l rows ≡ ok k)
  ran_accepted rows readings store eight long a c h = go (check_of l rows) refl
    where
      go : (v : Result Refusal ℕ) → check_of l rows ≡ v → (k : ℕ) × (check_of l rows ≡ ok k)
      go (ok k) e = (k, e)
      go (err e) q = answered_refused (sym h ∙ ap (λ (k : RunMade). k.0) (check_refuses l rows readings store eight long e q))

  calls : LargerCalls l m
  calls script readings rows store rows' store' n a c u full long h =
      let A = call_says l script readings rows store n a c h in
      let f = A.fit in
      let K = ran_accepted (read_of l newest script rows).1 readings store f.eight f.size a c A.ran in
      let S = scripts newest script rows A.version n (read_of l newest script rows).1 rows' K.0 u full (λ i. (A.read i, (read_of l newest script rows).1)) K.1 in
      let R = S.3.runs readings store store' f.eight f.size long in
      let same : answered R.answer R.cells ≡ answered a c = sym R.smaller ∙ A.ran in
      call_answers m script readings rows' store' (all_fit m script readings rows' store' r A.few full long f.eight) A.version n S.1 S.2 a c (R.larger ∙ same)

pub larger_sets : LargerSets
larger_sets l m le r = record { scripts = scripts l m le r; rows = of_rows l m le r; verdicts = verdicts l m le r; calls = calls l m le r }
