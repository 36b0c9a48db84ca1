-- One definition per ownership rule (LANGUAGE 3.16 to 3.28, 3.31), its tests in the rule's order (3.17). nv is the number of variables, i
-- the term, ns the terms that have not finished (3.32).
use Rattle.std.specs.Prelude.{ℕ, suc, ◌-◌, not, List, [], ◌∷◌, length, take, drop, leb}
use Rattle.std.proofs.Math.Option.{Option, none, some}
use Rattle.syntax.specs.Result.{Result, ok, err, Refusal, need, ◌>>=◌}
use Rattle.syntax.specs.Script.{Place}
use Rattle.statics.specs.Links.{boxed, shared, exclusive, max_links, leading_boxes, no_shared, last_shared, is_number, copies, same_links}
use Rattle.statics.specs.Places.{every, only}
use Rattle.statics.specs.Environment.{Borrow, no_borrow, shared_of, exclusive_of, borrow_end, Variable, Slot, free, used, live, Environment, Ty, update, fresh, moved_away, write, level_of, borrows_at, lives_at, leave}
use Rattle.statics.specs.Follow.{past, Met, follow, own_link, own_path, value_whole}
use Rattle.statics.specs.Uses.{Unfinished}
use Rattle.statics.specs.Bars.{read_barred, write_barred}
use Rattle.statics.specs.Choice.{agreeing, either, joined}

-- What a rule gives, or the first test that fails (LANGUAGE 3.17).
abbrev pub Judged : Type 0 → Type 0
Judged A = Result Refusal A

-- The environment afterwards, and the term's value, if it has one (LANGUAGE 3.3, 3.4).
abbrev pub Out : Type 0
Out = Environment × Option Ty

-- The value of a number, a reading, a below and a sum (LANGUAGE 3.18, 3.27).
abbrev pub number_ty : Ty
number_ty = record { links = []; borrow = no_borrow }

-- The root is in scope (31; LANGUAGE 3.16).
unfoldable pub in_scope : Slot → Refusal → Judged Variable
in_scope free e = err e
in_scope used e = err e
in_scope (live v) e = ok v

-- The places met (LANGUAGE 3.13); the refusal is never given, since the bound of following never runs out (7.5).
unfoldable pub reached : Met → Refusal → Judged (List Place)
reached none e = err e
reached (some ps) e = ok ps

-- The inner term has a value (41; LANGUAGE 3.23 to 3.25).
unfoldable pub valued : Option Ty → Refusal → Judged Ty
valued none e = err e
valued (some t) e = ok t

-- The root's variable, and the own links of variables that the place may lead to (LANGUAGE 3.13).
pub record Located : Type 0 where
  pub root : Variable
  pub to : List Place

module _ (nv : ℕ) where
  -- Judging a place (LANGUAGE 3.16): the root is in scope (31), the chain is long enough (32), and of each place met while following it the own
  -- path is not moved away (33).
  unfoldable pub judge_place : Environment → ℕ → Place → Judged Located
  judge_place Γ i p =
      in_scope (Γ p.root) (31, i) >>= λ v.
      need (leb p.follows (length v.chain)) (32, i) >>= λ _.
      reached (follow (suc nv) Γ p []) (33, i) >>= λ ps.
      need (every (λ q. own_path (Γ q.root) q.follows) ps) (33, i) >>= λ _.
      ok (record { root = v; to = only (λ q. own_link (Γ q.root) q.follows) ps })

  -- The place of a copy, a shared borrow, a below, a sum and a choice (LANGUAGE 3.19, 3.21, 3.27, 3.31): judged, its value whole (33), reading not barred
  -- (34).
  unfoldable pub judge_readable : Unfinished → Environment → ℕ → Place → Judged Located
  judge_readable ns Γ i p =
      judge_place Γ i p >>= λ l.
      need (value_whole nv Γ p.root l.root) (33, i) >>= λ _.
      need (not (read_barred nv ns Γ p.root)) (34, i) >>= λ _.
      ok l

  -- Copy (LANGUAGE 3.19): the place is readable, then a number or a shared link (37). The copy borrows what the copied link borrows.
  unfoldable pub judge_copy : Unfinished → Environment → ℕ → Place → Judged Out
  judge_copy ns Γ i p =
      judge_readable ns Γ i p >>= λ l.
      let ks = drop p.follows l.root.chain in
      need (copies ks) (37, i) >>= λ _.
      ok (Γ, some (record { links = ks; borrow = borrow_end ks (borrows_at Γ l.to) }))

  -- Move (LANGUAGE 3.20): 31 and 32 of the place, no borrow link passed (38), the value whole (33), writing not barred (35); then the mark.
  unfoldable pub judge_move : Unfinished → Environment → ℕ → Place → Judged Out
  judge_move ns Γ i p =
      in_scope (Γ p.root) (31, i) >>= λ v.
      need (leb p.follows (length v.chain)) (32, i) >>= λ _.
      need (leb p.follows (leading_boxes v.chain)) (38, i) >>= λ _.
      need (value_whole nv Γ p.root v) (33, i) >>= λ _.
      need (not (write_barred nv ns Γ p.root)) (35, i) >>= λ _.
      ok (update Γ p.root (live (moved_away v p.follows)), some (record { links = drop p.follows v.chain; borrow = v.borrow }))

  -- What a shared borrow of the place records (LANGUAGE 3.21): the place itself, or, where it passes shared links, all places that the last of them
  -- borrows, with the follows that remain. The last argument is that link, if there is one; so many follows lead to it. The place up to there is
  -- judged like any other, which refuses nothing: the named place, judged before, goes on from it.
  unfoldable pub recorded_places : Environment → ℕ → Place → Option ℕ → Judged (List Place)
  recorded_places Γ i p none = ok (p ∷ [])
  recorded_places Γ i p (some j) =
      judge_place Γ i (record { root = p.root; follows = j }) >>= λ l.
      ok (past (borrows_at Γ l.to) (p.follows - suc j))

  -- Shared borrow (LANGUAGE 3.21): the place is readable, then a shared link more makes at most 8 (42); then what it records.
  unfoldable pub judge_shared : Unfinished → Environment → ℕ → Place → Judged Out
  judge_shared ns Γ i p =
      judge_readable ns Γ i p >>= λ l.
      let ks = shared ∷ drop p.follows l.root.chain in
      need (leb (length ks) max_links) (42, i) >>= λ _.
      recorded_places Γ i p (last_shared (take p.follows l.root.chain)) >>= λ ps.
      ok (Γ, some (record { links = ks; borrow = shared_of ps }))

  -- Exclusive borrow (LANGUAGE 3.22): the place, its value whole (33), no shared link passed (36), writing not barred (35), at most 8 links (42).
  unfoldable pub judge_exclusive : Unfinished → Environment → ℕ → Place → Judged Out
  judge_exclusive ns Γ i p =
      judge_place Γ i p >>= λ l.
      need (value_whole nv Γ p.root l.root) (33, i) >>= λ _.
      need (no_shared (take p.follows l.root.chain)) (36, i) >>= λ _.
      need (not (write_barred nv ns Γ p.root)) (35, i) >>= λ _.
      let ks = exclusive ∷ drop p.follows l.root.chain in
      need (leb (length ks) max_links) (42, i) >>= λ _.
      ok (Γ, some (record { links = ks; borrow = exclusive_of (p ∷ []) }))

  -- Box (LANGUAGE 3.23), after the inner term, whose value is o: there is one (41), and a box link more makes at most 8 (42).
  unfoldable pub judge_box : Environment → ℕ → Option Ty → Judged Out
  judge_box Γ i o =
      valued o (41, i) >>= λ t.
      let ks = boxed ∷ t.links in
      need (leb (length ks) max_links) (42, i) >>= λ _.
      ok (Γ, some (record { links = ks; borrow = t.borrow }))

  -- Let (LANGUAGE 3.24), after the inner term: it has a value (41), and the variable is in scope, at the level of the block around it.
  unfoldable pub judge_let : ℕ → Environment → ℕ → ℕ → Option Ty → Judged Out
  judge_let level Γ i x o =
      valued o (41, i) >>= λ t.
      ok (update Γ x (live (fresh t.links t.borrow level)), none)

  -- Assign (LANGUAGE 3.25), after the right side: it has a value (41), the path of the place (31, 32, 33), no shared link passed (36), the same
  -- links (39), every borrowed root lives long enough for every variable that may be written (40). This gives the state with the new value in
  -- place.
  unfoldable pub judge_write : Environment → ℕ → Place → Option Ty → Judged Out
  judge_write Γ i p o =
      valued o (41, i) >>= λ t.
      judge_place Γ i p >>= λ l.
      need (no_shared (take p.follows l.root.chain)) (36, i) >>= λ _.
      need (same_links (drop p.follows l.root.chain) t.links) (39, i) >>= λ _.
      need (every (λ q. lives_at Γ t.borrow (level_of (Γ q.root))) l.to) (40, i) >>= λ _.
      ok (write Γ l.to t.borrow, none)

  -- In that state writing the root is not barred (35).
  unfoldable pub judge_assign : Unfinished → Environment → ℕ → Place → Option Ty → Judged Out
  judge_assign ns Γ i p o =
      judge_write Γ i p o >>= λ w.
      need (not (write_barred nv ns w.0 p.root)) (35, i) >>= λ _.
      ok w

  -- A place of a below, a sum or a choice (LANGUAGE 3.27, 3.31): readable, then a number (39).
  unfoldable pub judge_number : Unfinished → Environment → ℕ → Place → Judged (Unit {0})
  judge_number ns Γ i p =
      judge_readable ns Γ i p >>= λ l.
      need (is_number (drop p.follows l.root.chain)) (39, i)

  -- Below and sum (LANGUAGE 3.27): the first place, then the second.
  unfoldable pub judge_below : Unfinished → Environment → ℕ → Place → Place → Judged Out
  judge_below ns Γ i p q =
      judge_number ns Γ i p >>= λ _.
      judge_number ns Γ i q >>= λ _.
      ok (Γ, some number_ty)

  -- The borrowed places of a value, if there are any (LANGUAGE 3.3).
  abbrev pub borrow_in : Option Ty → Borrow
  borrow_in none = no_borrow
  borrow_in (some t) = t.borrow

  -- The end of a block (LANGUAGE 3.28): its value borrows no root that lives in it (40), then its variables leave scope. level is that of the
  -- block around it.
  unfoldable pub judge_block_end : ℕ → Environment → ℕ → Option Ty → Judged Out
  judge_block_end level Γ i o =
      need (lives_at Γ (borrow_in o) level) (40, i) >>= λ _.
      ok (leave level Γ, o)

  -- The end of a choice (LANGUAGE 3.31), from the state before it and what its blocks left: their values agree (39), and what is known joins.
  unfoldable pub judge_choice : Environment → ℕ → Out → Out → Judged Out
  judge_choice Γ i a b =
      need (agreeing a.1 b.1) (39, i) >>= λ _.
      ok (joined Γ a.0 b.0, either a.1 b.1)
