-- What is borrowed where a place may lead, of a value that is whole; and the rules that record it: the copy of a borrow (LANGUAGE 3.19), and a shared
-- borrow that passes shared links (3.21).
use Prim.Native.Nat.{ℕ, suc, ◌-◌, ◌≤◌, ◌<◌}
use native.Mathlib.Omega.{arith}
use mathlib.Core.Path.{◌≡◌, refl, sym, ap, ap₂, ◌∙◌, subst}
use mathlib.Core.Bool.{true, false}
use mathlib.Core.Option.{some}
use mathlib.Core.List.{List, [], ◌∷◌}
use lib.ListN.{length, take, drop, length-drop}
use Rattle.syntax.specs.Result.{ok, need, ◌>>=◌}
use Rattle.syntax.specs.Script.{Place}
use Rattle.variables.specs.declared.table.Row.{Row}
use Rattle.variables.specs.declared.roots.Roots.{Roots}
use Rattle.paths.specs.declared.follow.Ends.{Ends}
use Rattle.paths.specs.declared.follow.Ends.TheVariants as ends
use Rattle.std.specs.Prelude.{Result, Ok, Err}
use Rattle.syntax.specs.declared.refusals.Reason.{Reason}
use Rattle.statics.specs.Links.{Link, shared, leading_boxes, last_shared, is_number, copies}
use Rattle.statics.specs.Environment.{places, borrow_end, Variable, live, borrows_at}
use Rattle.statics.specs.Follow.{past, value_whole}
use Rattle.statics.specs.Uses.{Unfinished}
use Rattle.statics.specs.Rules as rules
use Rattle.statics.specs.Rules.{judge_place, judge_copy, recorded_places, judge_shared}
use Rattle.statics.specs.Neat.{place, Among, SameSet}
use Rattle.statics.specs.Roots.{lengths, places_of, left}
use Rattle.variables.specs.Masks.{has}
use Rattle.variables.specs.Chains.{chain_of}
use Rattle.paths.specs.Steps.{Searched, BorrowedAt}
use Rattle.variables.specs.Table.{links_at, long_at, roots_at, variable_at, places_in, end_in, environment_of}
use Rattle.variables.specs.Verdicts.{Verdict, NeatTable, type_of, answered, Answers, at_most8}
use Rattle.rules.specs.RuleAnswers.{PlaceFound, Named, Read, WholeBorrow, LentAt}
use Rattle.statics.proofs.Answers.{err≢ok}
use Rattle.statics.proofs.LinkChains.{last_at}
use Rattle.variables.proofs.ChainLaws.{rest_number}
use Rattle.variables.proofs.MaskLaws.{has_below}
use Rattle.statics.proofs.NeatPaths.{Lies, led, borrowed_there}
use Rattle.statics.proofs.NeatTerms.{readable_place}
use Rattle.statics.proofs.RootLaws.{from_in}
use Rattle.statics.proofs.RootSets.{past_places}
use Rattle.statics.proofs.FollowRoots as paths
use Rattle.statics.proofs.WholePath.{whole_path}
use Rattle.variables.proofs.EntryLaws.{live_status}
use Rattle.variables.proofs.EndLaws.{linked_places}
use Rattle.rules.proofs.ValueLaws.{copied_borrow, borrows_there}
use Rattle.rules.proofs.PlaceLaws.{variable_is, named_live, on_chain, search_fits, place_moved, place_there, copy_is}
use Rattle.rules.proofs.OwnLaws.{found_own, own_borrows}

-- ---- the search for it

module _ (env : List Row) (nv : ℕ) (T : NeatTable env nv) (i x follows : ℕ) (W : WholeBorrow env nv x follows) where
  abbrev ks : List Link
  ks = drop follows (chain_of (links_at env x))

  rest : (m : ℕ) × (ks ≡ chain_of m)
  rest = rest_number follows (links_at env x)

  named : Named (environment_of env) (place x follows) rest.0
  named = record { variable = variable_at env x; is = W.is; long = W.long; after = rest.1 }

  module _ (e : Result Ends Reason) (S : Searched nv (environment_of env) x (long_at env x - follows) false e) where
    -- It ends in the root itself, which borrows what its entry says.
    pub lent_own : e ≡ Ok ends.Own → (s : Roots) → s ≡ roots_at env x → LentAt nv env i x follows s
    lent_own h s r =
        let F = found_own env nv T i (place x follows) named x refl follows refl e S h in
        record {
          to = place x follows ∷ [];
          is = F.is ∙ ap (λ (v : Variable). ok (paths.located v (place x follows ∷ []))) (variable_is env (place x follows) F.named);
          borrowed = own_borrows env nv T i (place x follows) F
              ∙ ap (λ (l : List Link). places (end_in env l (roots_at env x))) (sym rest.1)
              ∙ linked_places ks (places_in env ks (roots_at env x)) W.borrow
              ∙ ap (places_in env ks) (sym r);
        }

    module _ (to : Roots) (h : e ≡ Ok (ends.At to)) where
      there : PlaceFound nv (environment_of env) (place x follows) (links_at env x) rest.0 to (judge_place nv (environment_of env) i (place x follows))
      there = place_there env nv T i (place x follows) named x refl follows refl e S to h (links_at env x) refl

      pub lent_low : (y : ℕ) → has to y ≡ true → y < nv
      lent_low = there.low

      -- It ends in these variables.
      pub lent_there : (s : Roots) → BorrowedAt env to s → LentAt nv env i x follows s
      lent_there s B =
          let root : there.located.root ≡ variable_at env x = (live_status env x there.located.root there.root).1 in
          let L = led T.1.1 i (place x follows) there.located there.is in
          let same : drop follows there.located.root.chain ≡ ks = ap (λ (v : Variable). drop follows v.chain) root in
          record {
            to = there.located.to;
            is = there.is ∙ ap (λ (v : Variable). ok (paths.located v there.located.to)) root;
            borrowed = borrows_there env nv ks there.located.to to s (λ q k. let z = L.ends q k in (subst (λ (l : List Link). Lies (environment_of env) l q) same z.0, z.1))
                (subst (λ (l : List Link). SameSet there.located.to (places_of nv (has to) (lengths (environment_of env)) (length l))) (sym rest.1) there.to) lent_low B W.borrow;
          }

    -- Nothing on the way is moved away, since the value is whole.
    pub never_moved : (k : Reason) → e ≡ Err k → ⊥
    never_moved k h =
        err≢ok (sym (place_moved env nv T i (place x follows) named x refl follows refl e S k h) ∙ (whole_path T.1.1 (place x follows) (variable_at env x) W.is W.long i W.whole).1)

-- ---- the rules that ask for it, of a place that is named and whose value is whole

module _ (env : List Row) (nv : ℕ) (T : NeatTable env nv) (p : Place) {rest : ℕ} (F : Named (environment_of env) p rest) (x : ℕ) (at : x ≡ p.root) where
  is_root : F.variable ≡ variable_at env x
  is_root = variable_is env p F ∙ ap (variable_at env) (sym at)

  root_live : environment_of env x ≡ live (variable_at env x)
  root_live = named_live env p F x at

  module _ (f : ℕ) (follows : f ≡ p.follows) where
    chain_on : drop f (chain_of (links_at env x)) ≡ chain_of rest
    chain_on = ap₂ (λ (k y : ℕ). drop k (chain_of (links_at env y))) follows at ∙ on_chain env p F

    fits : f ≤ long_at env x
    fits = search_fits env p F x at f follows

    module _ (whole : value_whole nv (environment_of env) p.root F.variable ≡ true) where
      root_whole : value_whole nv (environment_of env) x (variable_at env x) ≡ true
      root_whole = ap₂ (λ (y : ℕ) (v : Variable). value_whole nv (environment_of env) y v) at (sym is_root) ∙ whole

      -- Copy (LANGUAGE 3.19).
      pub copy_asks : copies (chain_of rest) ≡ true → is_number (chain_of rest) ≡ false → WholeBorrow env nv x f
      copy_asks copied no_number = record {
        is = root_live;
        whole = root_whole;
        long = fits;
        borrow = subst (λ (l : List Link). leading_boxes l < length l) (sym chain_on) (copied_borrow (chain_of rest) copied no_number);
      }

      -- Shared borrow (LANGUAGE 3.21).
      pub shared_asks : (j : ℕ) → last_shared (take f (chain_of (links_at env x))) ≡ some j → WholeBorrow env nv x j
      unfolding leading_boxes
      shared_asks j passed =
          let at_last = last_at f (chain_of (links_at env x)) j passed in
          record {
            is = root_live;
            whole = root_whole;
            long = omega (arith, at_last.0, fits);
            borrow = subst (λ (l : List Link). leading_boxes l < length l) (sym at_last.1) (omega arith);
          }

-- ---- what they answer, of a place that may be read

module _ (env : List Row) (nv : ℕ) (T : NeatTable env nv) (i : ℕ) (p : Place) {rest : ℕ} {ns : Unfinished} (R : Read nv ns (environment_of env) i p rest) (x : ℕ) (at : x ≡ p.root) where
  located : judge_place nv (environment_of env) i p ≡ ok (paths.located R.named.variable R.to)
  located = readable_place nv ns (environment_of env) i p (paths.located R.named.variable R.to) R.is

  module _ (f : ℕ) (follows : f ≡ p.follows) where
    abbrev on : drop f (chain_of (links_at env x)) ≡ chain_of rest
    on = chain_on env nv T p R.named x at f follows

    abbrev long : f ≤ long_at env x
    long = fits env nv T p R.named x at f follows

    -- ---- copy (LANGUAGE 3.19)

    pub copy_lent : copies (chain_of rest) ≡ true → (s : Roots) → LentAt nv env i x f s → judge_copy nv ns (environment_of env) i p ≡ ok (environment_of env, some (type_of (chain_of rest) (end_in env (chain_of rest) s)))
    copy_lent copied s L =
        let same : paths.located (variable_at env x) L.to ≡ paths.located R.named.variable R.to = (let z = sym L.is ∙ ap₂ (λ (y k : ℕ). judge_place nv (environment_of env) i (place y k)) at follows ∙ located in cc) in
        copy_is env nv T i p R copied
        ∙ ap (λ (ps : List Place). ok (environment_of env, some (type_of (chain_of rest) (borrow_end (chain_of rest) ps))))
        (ap (λ (l : rules.Located). borrows_at (environment_of env) l.to) (sym same) ∙ L.borrowed ∙ ap (λ (l : List Link). places_in env l s) on)

    -- ---- shared borrow (LANGUAGE 3.21)

    module _ (j : ℕ) (passed : last_shared (take f (chain_of (links_at env x))) ≡ some j) where
      at_last : (j < f) × (drop j (chain_of (links_at env x)) ≡ shared ∷ drop (suc j) (chain_of (links_at env x)))
      at_last = last_at f (chain_of (links_at env x)) j passed

      module _ (s : Roots) (L : LentAt nv env i x j s) where
        abbrev m : ℕ
        m = length (drop (suc j) (chain_of (links_at env x)))

        lent : borrows_at (environment_of env) L.to ≡ places_of 128 (has s) (long_at env) m
        unfolding leading_boxes
        lent = L.borrowed ∙ ap (λ (l : List Link). places_in env l s) at_last.1

        first_shared : left (shared ∷ drop (suc j) (chain_of (links_at env x))) ≡ m
        unfolding leading_boxes
        first_shared = refl

        -- What is recorded has the links left that come after the holder's borrow link, so its root has as many.
        long_enough : (y : ℕ) → has s y ≡ true → m ≤ long_at env y
        unfolding places_of
        long_enough y h =
            let q = place y (long_at env y - m) in
            let among = from_in (has s) (long_at env) m 0 128 y (omega arith) (omega (arith, has_below s y h)) h in
            let l = paths.located (variable_at env x) L.to in
            let held = borrowed_there T.1.1 (place x j) l (led T.1.1 i (place x j) l L.is) q (subst (λ (ps : List Place). Among q ps) (sym lent) among) in
            let long : length held.variable.chain ≡ long_at env y = ap (λ (v : Variable). length v.chain) (live_status env y held.variable held.is).1 in
            let after : length (drop (long_at env y - m) held.variable.chain) ≡ m = ap (λ (l : List Link). length l) held.rest ∙ ap (λ (l : List Link). left l) at_last.1 ∙ first_shared in
            omega (arith, long, after, length-drop (long_at env y - m) held.variable.chain)

        recorded : recorded_places nv (environment_of env) i p (some j) ≡ ok (places_of 128 (has s) (long_at env) (length (chain_of rest)))
        unfolding recorded_places ◌>>=◌
        recorded =
            let placed : judge_place nv (environment_of env) i (place p.root j) ≡ ok (paths.located (variable_at env x) L.to) = ap (λ (y : ℕ). judge_place nv (environment_of env) i (place y j)) (sym at) ∙ L.is in
            let n = p.follows - suc j in
            let behind-link = length-drop (suc j) (chain_of (links_at env x)) in
            let behind-place = length-drop f (chain_of (links_at env x)) in
            let after = ap (λ (l : List Link). length l) on in
            let fewer : n ≤ m = omega (arith, behind-link, long, follows, at_last.0) in
            let remain : m - n ≡ length (chain_of rest) = omega (arith, behind-link, behind-place, after, long, follows, at_last.0) in
            rw placed (ap ok (ap (λ (ps : List Place). past ps n) lent ∙ past_places (has s) (long_at env) m n fewer long_enough 128 ∙ ap (places_of 128 (has s) (long_at env)) remain))

        pub shared_lent : (v : Verdict) → Answers v (at_most8 (λ e. type_of (shared ∷ chain_of rest) (end_in e (shared ∷ chain_of rest) s))) → answered env i v ≡ judge_shared nv ns (environment_of env) i p
        unfolding judge_shared need ◌>>=◌ borrow_end leading_boxes
        shared_lent v a =
            let last : last_shared (take p.follows R.named.variable.chain) ≡ some j = ap₂ (λ (u : Variable) (k : ℕ). last_shared (take k u.chain)) (is_root env nv T p R.named x at) (sym follows) ∙ passed in
            rw (R.is, last, recorded, R.named.after) (a env i)
