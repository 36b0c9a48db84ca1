-- What the parts of the machine's code answer: each the run rule it is for, on the store that the lent numbers stand for. No rule of the
-- language is stated here. `set` is the set of limits (LANGUAGE 2.8).
use Rattle.std.specs.Prelude.{ℕ, zero, suc, ◌+◌, ◌-◌, ◌*◌, ◌≤◌, ◌<◌, ◌≡◌, true, List, [], ℤ, length, get_or, set as replaced, Ok, Err, IfOk}
use Rattle.std.specs.Prelude as prelude
use Rattle.syntax.specs.Refusals.{number_of}
use Rattle.syntax.specs.declared.refusals.Reason.{Reason}
use Rattle.syntax.specs.declared.refusals.Refusal.{Refusal}
use Rattle.std.proofs.Math.Option.{none, some}
use Rattle.syntax.specs.Kinds.{wraps_of}
use Rattle.syntax.specs.Result.{Result, ok, err, pick, ◌>>=◌}
use Rattle.syntax.specs.Limits.{Limits, row_numbers}
use Rattle.syntax.specs.Script.{Term, Terms}
use Rattle.syntax.specs.Measures.{boxes_in, boxes_all}
use Rattle.syntax.specs.RowParts.{field_at}
use Rattle.syntax.specs.RowTrees.{RowTree, IsTree, IsRest, several_at, terms_at, tree_at}
use Rattle.dynamics.specs.Values.{empty, open_with}
use Rattle.dynamics.specs.Store.{Store, put, is_open, State, Ran}
use Rattle.dynamics.specs.Drop.{InOrder, drop_value}
use Rattle.dynamics.specs.Run.{Outcome, run_box, run_let, run_assign, run_block_end, run, runs}
use Rattle.dynamics.specs.Encode.{location_of}
use Rattle.dynamics.specs.Readings.{bits_of}
use Rattle.store.specs.declared.store.Value.{Value}
use Rattle.store.specs.declared.store.Value.TheVariants.{Empty}
use Rattle.store.specs.Words.{as_value, store_of, Sound, Tidy}
use Rattle.term_runner.specs.declared.around.Standing.{Standing}
use Rattle.store.specs.StoreParts.{state_at, place_of, told_at, since, Listed}
use Rattle.term_runner.specs.LeafParts.{ran_on, LeafRan}

-- ---- dropping and closing

pub record Wrote (set : Limits) (w : List ℕ) (row : ℕ) (v : Value) (w' : List ℕ) : Type 0 where
  pub tidy : Tidy set w'
  pub is : store_of set w' ≡ pick (is_open (store_of set w (location_of set.variables row))) (put (store_of set w) (location_of set.variables row) (open_with (as_value set v))) (store_of set w)

-- What an answer of the code says: the state that an assign leaves.
abbrev pub assigned : Limits → List ℕ → ℕ → List ℕ → ℕ → prelude.Result (Unit {0}) Reason → Ran Outcome
assigned set w taken opened i r = told_at (state_at set w taken opened) i (λ u. (state_at set w taken opened, empty)) r

pub record PlaceAssigned (set : Limits) (w : List ℕ) (root follows : ℕ) (v : Value) (w' : List ℕ) (r : prelude.Result (Unit {0}) Reason) : Type 0 where
  pub tidy : Tidy set w'
  pub is : (i taken : ℕ) (opened : List ℕ) → InOrder (state_at set w taken opened) → assigned set w' taken opened i r ≡ run_assign (state_at set w taken opened) i (place_of root follows) (as_value set v)

-- ---- where a run stands

-- What is seen of a fault: its number, its term, and the store.
pub record Stop : Type 0 where
  pub number : ℕ
  pub term : ℕ
  pub store : Store

unfoldable pub seen : {A : Type 0} → Ran A → Result Stop A
seen (ok a) = ok a
seen (err f) = err (record { number = f.number; term = f.term; store = f.state.store })

-- The outcome of a term, and the row after it.
abbrev pub Stood : Type 0
Stood = Result Stop (Outcome × ℕ)

unfoldable pub at_row : ℕ → Result Stop Outcome → Stood
at_row j (ok o) = ok (o, j)
at_row j (err e) = err e

abbrev pub outcome : Limits → List ℕ → List ℕ → ℕ → Standing → Outcome
outcome set w opened begin r = (state_at set w r.taken (since opened begin (r.opened - begin)), as_value set r.value)

-- What the code answers of where a run stands, or of a fault with its term.
abbrev pub Stands : Type 0
Stands = prelude.Result Standing Refusal

-- What is known of it: the outcome and the next row, or the fault.
abbrev pub stood : Limits → List ℕ → List ℕ → ℕ → Stands → Stood
stood set w opened begin (Ok r) = ok (outcome set w opened begin r, r.next)
stood set w opened begin (Err e) = err (record { number = number_of e.reason; term = e.place; store = store_of set w })

-- What follows an inner term: the row after it stays.
unfoldable pub sequel : Stood → (Outcome → Ran Outcome) → Stood
sequel (ok o) rule = at_row o.1 (seen (rule o.0))
sequel (err e) rule = err e

-- Before the first term of a block, which stands in row `next`: no value yet.
abbrev pub entered_at : ℕ → ℕ → ℕ → Standing
entered_at next n taken = record { value = Empty; taken = taken; opened = n; next = next }

-- What holds after an inner term that meets no fault.
pub record Fine (set : Limits) (w : List ℕ) (r : Standing) : Type 0 where
  pub sound : Sound set r.value
  pub ordered : InOrder (state_at set w r.taken [])

-- What a rule after an inner term asks.
pub record InnerReady (set : Limits) (w : List ℕ) (inner : Standing) : Type 0 where
  pub tidy : Tidy set w
  pub fine : Fine set w inner

-- What a rule after an inner term passes on.
pub record Went (set : Limits) (inner r : Standing) : Type 0 where
  pub sound : Sound set r.value
  pub next : r.next ≡ inner.next

pub record BoxReady (set : Limits) (w : List ℕ) (inner : Standing) : Type 0 where
  pub ready : InnerReady set w inner
  pub few : inner.taken < set.boxes

pub record Boxed (set : Limits) (w : List ℕ) (inner : Standing) (w' : List ℕ) (r : Stands) : Type 0 where
  pub tidy : Tidy set w'
  pub is : (opened : List ℕ) (begin : ℕ) → stood set w' opened begin r ≡ sequel (stood set w opened begin (Ok inner)) (λ o. run_box o.0 o.1)
  pub went : IfOk r (λ s. Went set inner s)
  pub count : IfOk r (λ s. s.opened ≡ inner.opened)

pub record LetReady (set : Limits) (w opened : List ℕ) (x : ℕ) (inner : Standing) : Type 0 where
  pub ready : InnerReady set w inner
  pub variable : x < set.variables
  pub few : inner.opened < length opened

-- The variable x, opened last.
pub record Pushed (opened : List ℕ) (x : ℕ) (inner : Standing) (opened' : List ℕ) (r : Standing) : Type 0 where
  pub count : r.opened ≡ suc inner.opened
  pub is : opened' ≡ replaced opened inner.opened x

pub record Declared (set : Limits) (w opened : List ℕ) (i x : ℕ) (inner : Standing) (w' opened' : List ℕ) (r : Stands) : Type 0 where
  pub tidy : Tidy set w'
  pub is : (begin : ℕ) → begin ≤ inner.opened → stood set w' opened' begin r ≡ sequel (stood set w opened begin (Ok inner)) (λ o. run_let o.0 i x o.1)
  pub went : IfOk r (λ s. Went set inner s)
  pub pushed : IfOk r (λ s. Pushed opened x inner opened' s)

pub record Assigned (set : Limits) (w : List ℕ) (i root follows : ℕ) (inner : Standing) (w' : List ℕ) (r : Stands) : Type 0 where
  pub tidy : Tidy set w'
  pub is : (opened : List ℕ) (begin : ℕ) → stood set w' opened begin r ≡ sequel (stood set w opened begin (Ok inner)) (λ o. run_assign o.0 i (place_of root follows) o.1)
  pub went : IfOk r (λ s. Went set inner s)
  pub count : IfOk r (λ s. s.opened ≡ inner.opened)

pub record EndReady (set : Limits) (w opened : List ℕ) (begin : ℕ) (inner : Standing) : Type 0 where
  pub ready : InnerReady set w inner
  pub listed : Listed set opened inner.opened
  pub begun : begin ≤ inner.opened
  pub few : inner.opened ≤ length opened

-- `around` is where the block around this one began.
pub record BlockClosed (set : Limits) (w opened : List ℕ) (i begin : ℕ) (inner : Standing) (w' : List ℕ) (r : Stands) : Type 0 where
  pub tidy : Tidy set w'
  pub is : (around : ℕ) → stood set w' opened around r ≡ sequel (stood set w opened begin (Ok inner)) (λ o. run_block_end i (since opened around (begin - around)) o)
  pub went : IfOk r (λ s. Went set inner s)
  pub count : IfOk r (λ s. s.opened ≡ begin)

-- What follows the inner term of a term around one, which is at row i, by its kind.
pub record AfterReady (set : Limits) (rows : List ℕ) (i : ℕ) (w opened : List ℕ) (inner : Standing) : Type 0 where
  pub room : 5 * i + 5 ≤ length rows
  pub wraps : wraps_of (field_at rows i 0) ≡ true
  pub box : field_at rows i 0 ≡ 7 → BoxReady set w inner
  pub bind : field_at rows i 0 ≡ 8 → LetReady set w opened (field_at rows i 1) inner
  pub assign : field_at rows i 0 ≡ 9 → InnerReady set w inner × (field_at rows i 1 < set.variables)

pub record AfterRan (set : Limits) (rows : List ℕ) (i : ℕ) (w opened : List ℕ) (inner : Standing) (w' opened' : List ℕ) (r : Stands) : Type 0 where
  pub box : field_at rows i 0 ≡ 7 → Boxed set w inner w' r × (opened' ≡ opened)
  pub bind : field_at rows i 0 ≡ 8 → Declared set w opened i (field_at rows i 1) inner w' opened' r
  pub assign : field_at rows i 0 ≡ 9 → Assigned set w i (field_at rows i 1) (field_at rows i 2) inner w' r × (opened' ≡ opened)

-- ---- terms and blocks

-- A value, or a fault, of term i, which is one row.
abbrev pub plain_stands : ℕ → ℕ → ℕ → prelude.Result Value Reason → Stands
plain_stands i n taken (Ok v) = Ok (record { value = v; taken = taken; opened = n; next = i + 1 })
plain_stands i n taken (Err e) = Err (record { reason = e; place = i })

-- A term without an inner term, after n variables opened and so many cells taken.
pub record PlainRan (set : Limits) (rows : List ℕ) (i : ℕ) (readings : List ℤ) (w : List ℕ) (n taken : ℕ) (w' : List ℕ) (r : Stands) : Type 0 where
  pub gives : prelude.Result Value Reason
  pub ran : LeafRan set rows i readings w w' gives
  pub is : r ≡ plain_stands i n taken gives

-- The variables opened, n before and m after rows i to j: those before stay, and each row opened one at most.
pub record Opened (set : Limits) (before after : List ℕ) (n m i j : ℕ) : Type 0 where
  pub kept : (k : ℕ) → k < n → get_or after k 0 ≡ get_or before k 0
  pub more : n ≤ m
  pub few : m + i ≤ n + j
  pub listed : Listed set after m
  pub room : j ≤ set.terms

-- The row after what stands in rows.
unfoldable pub end_of : {A : Type 0} → RowTree A → ℕ
end_of none = 0
end_of (some r) = r.1

-- The boxes in it, by the count for it; in a term; and in what is left of a block: n terms from row i on.
unfoldable pub boxes_by : {A : Type 0} → (A → ℕ) → RowTree A → ℕ
boxes_by count none = 0
boxes_by count (some r) = count r.0

abbrev pub boxes_at : RowTree Term → ℕ
boxes_at d = boxes_by boxes_in d

abbrev pub boxes_rest : (ℕ → RowTree Term) → ℕ → ℕ → ℕ
boxes_rest f n i = boxes_by boxes_all (terms_at f n i)

-- Its run, and the row after it.
unfoldable pub stood_on : {A : Type 0} → (A → State → Ran Outcome) → RowTree A → State → Stood
stood_on rule d s = at_row (end_of d) (seen (ran_on rule d s))

abbrev pub run_at : List ℤ → RowTree Term → State → Stood
run_at readings d s = stood_on (run (bits_of readings)) d s

-- What terms and blocks ask of the lent memory.
pub record Ready (set : Limits) (rows : List ℕ) (i : ℕ) (readings : List ℤ) (w opened : List ℕ) (n taken : ℕ) : Type 0 where
  pub long : length rows ≡ row_numbers set
  pub eight : length readings ≡ 8
  pub many : set.terms ≤ length opened
  pub tidy : Tidy set w
  pub ordered : InOrder (state_at set w taken [])
  pub few : n ≤ i
  pub listed : Listed set opened n

pub record TermReady (set : Limits) (rows : List ℕ) (i levels : ℕ) (readings : List ℤ) (w opened : List ℕ) (n taken : ℕ) : Type 0 where
  pub ready : Ready set rows i readings w opened n taken
  pub is : IsTree (tree_at set.variables levels rows i)
  pub cells : taken + boxes_at (tree_at set.variables levels rows i) ≤ set.boxes

pub record TermRan (set : Limits) (rows : List ℕ) (i levels : ℕ) (readings : List ℤ) (w opened : List ℕ) (n taken : ℕ) (w' opened' : List ℕ) (r : Stands) : Type 0 where
  pub tidy : Tidy set w'
  pub is : (begin : ℕ) → begin ≤ n → stood set w' opened' begin r ≡ run_at readings (tree_at set.variables levels rows i) (state_at set w taken (since opened begin (n - begin)))
  pub sound : IfOk r (λ s. Sound set s.value)
  pub opens : IfOk r (λ s. Opened set opened opened' n s.opened i s.next)

-- Likewise of block i's terms.
abbrev pub runs_at : List ℤ → ℕ → RowTree Terms → State → Stood
runs_at readings i ds s = stood_on (λ ts. runs (bits_of readings) ts i) ds s

-- What is left of block i: n terms from row j on, after the outcome of the term before them.
unfoldable pub rest_run : List ℤ → (ℕ → RowTree Term) → ℕ → ℕ → ℕ → Outcome → Stood
rest_run readings f i zero j o = ok (o, j)
rest_run readings f i (suc n) j o = seen (drop_value i o.0 o.1) >>= λ s. runs_at readings i (several_at f n j) s

-- The terms of the block at row i, from the next row on.
pub record BlockReady (set : Limits) (rows : List ℕ) (i levels : ℕ) (readings : List ℤ) (w opened : List ℕ) (n taken : ℕ) : Type 0 where
  pub ready : Ready set rows (i + 1) readings w opened n taken
  pub room : i < set.terms
  pub is : IsRest (tree_at set.variables levels rows) (field_at rows i 1) (i + 1)
  pub cells : taken + boxes_rest (tree_at set.variables levels rows) (field_at rows i 1) (i + 1) ≤ set.boxes

pub record BlockRan (set : Limits) (rows : List ℕ) (i levels : ℕ) (readings : List ℤ) (w opened : List ℕ) (n taken : ℕ) (w' opened' : List ℕ) (r : Stands) : Type 0 where
  pub tidy : Tidy set w'
  pub is : stood set w' opened' n r ≡ rest_run readings (tree_at set.variables levels rows) i (field_at rows i 1) (i + 1) (state_at set w taken [], empty)
  pub sound : IfOk r (λ s. Sound set s.value)
  pub opens : IfOk r (λ s. Opened set opened opened' n s.opened (i + 1) s.next)
