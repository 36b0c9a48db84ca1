-- A judged place as the code has it, by what the rules found, and the rules that ask for such a place.
use Prim.Native.Nat.{ℕ, suc, ◌-◌, ◌≤◌, ◌<◌}
use native.Mathlib.Omega.{arith}
use mathlib.Core.Path.{◌≡◌, refl, sym, ap, ap₂, ◌∙◌, subst}
use mathlib.Core.Bool.{Bool, true, false, false≢true, not}
use mathlib.Core.Option.{none, some}
use mathlib.Core.List.{List, [], ◌∷◌}
use lib.ListN.{length, take, drop, length-drop}
use lib.Dec.{leb, eqb}
use borrow.Author.Tests.{lt-leb}
use Rattle.syntax.specs.Result.{ok, err, need, ◌>>=◌, pick}
use Rattle.syntax.specs.Script.{Place}
use Rattle.variables.specs.declared.table.Row.{Row}
use Rattle.variables.specs.declared.roots.Roots.{Roots}
use Rattle.paths.specs.declared.follow.Ends.{Ends}
use Rattle.paths.specs.declared.follow.Ends.TheVariants as ends
use Rattle.std.specs.Prelude.{Result, Ok, Err}
use Rattle.syntax.specs.declared.refusals.Reason.{Reason}
use Rattle.syntax.specs.declared.refusals.Reason.TheVariants as reason
use Rattle.syntax.specs.Refusals.{number_of}
use Rattle.statics.specs.Links.{Link, shared, exclusive, max_links, leading_boxes, no_shared, last_shared, is_number, copies}
use Rattle.statics.specs.Places.{every}
use Rattle.statics.specs.Environment.{Borrow, shared_of, exclusive_of, borrow_end, Variable, Slot, free, used, live, Environment, Ty, borrows_at}
use Rattle.statics.specs.Follow.{own_link, value_whole}
use Rattle.statics.specs.Uses.{Unfinished}
use Rattle.statics.specs.Bars.{read_barred, write_barred}
use Rattle.statics.specs.Rules as rules
use Rattle.statics.specs.Rules.{Judged, number_ty, in_scope, judge_place, judge_readable, judge_copy, judge_move, recorded_places, judge_shared, judge_exclusive, judge_number}
use Rattle.statics.specs.Neat.{place, SameSet}
use Rattle.statics.specs.Roots.{links_of, lengths, places_of, MetFrom, ends_of}
use Rattle.variables.specs.Masks.{has}
use Rattle.variables.specs.Chains.{chain_of}
use Rattle.paths.specs.Steps.{passes_slot, passes, Searched}
use Rattle.variables.specs.Table.{entry_word, links_at, long_at, variable_at, end_in, environment_of}
use Rattle.variables.specs.Verdicts.{NeatTable, Verdict, type_of, answered, Answers, at_most8}
use Rattle.rules.specs.RuleAnswers.{PlaceFound, Named, NamedIs, Read, ReadableIs, WholeIs, NumberIs}
use Rattle.statics.proofs.RootLaws.{same_roots}
use Rattle.statics.proofs.RootSets.{one_place}
use Rattle.statics.proofs.FollowRoots as paths
use Rattle.statics.proofs.WholePath.{whole_path, not_whole}
use Rattle.variables.proofs.EntryLaws.{status_live, live_status, live_inside}
use Rattle.rules.proofs.ValueLaws.{number_type}

-- ---- the answer, by its case

module _ (nv : ℕ) (Γ : Environment) (i : ℕ) (p : Place) {r : Result ℕ Reason} where
  pub named_at : NamedIs nv Γ i p r → {rest : ℕ} → r ≡ Ok rest → Named Γ p rest
  named_at answer e = subst (λ (k : Result ℕ Reason). NamedIs nv Γ i p k) e answer

  pub named_refused : NamedIs nv Γ i p r → {n : Reason} → r ≡ Err n → judge_place nv Γ i p ≡ err (number_of n, i)
  named_refused answer {n} e = let both : NamedIs nv Γ i p (Err n) = subst (λ (k : Result ℕ Reason). NamedIs nv Γ i p k) e answer in both.0

  pub move_refused : NamedIs nv Γ i p r → {n : Reason} → r ≡ Err n → (ns : Unfinished) → judge_move nv ns Γ i p ≡ err (number_of n, i)
  move_refused answer {n} e = let both : NamedIs nv Γ i p (Err n) = subst (λ (k : Result ℕ Reason). NamedIs nv Γ i p k) e answer in both.1

module _ (nv : ℕ) (ns : Unfinished) (Γ : Environment) (i : ℕ) (p : Place) {r : Result ℕ Reason} where
  pub read_at : ReadableIs nv ns Γ i p r → {rest : ℕ} → r ≡ Ok rest → Read nv ns Γ i p rest
  read_at answer e = subst (λ (k : Result ℕ Reason). ReadableIs nv ns Γ i p k) e answer

  pub read_refused : ReadableIs nv ns Γ i p r → {n : Reason} → r ≡ Err n → judge_readable nv ns Γ i p ≡ err (number_of n, i)
  read_refused answer e = subst (λ (k : Result ℕ Reason). ReadableIs nv ns Γ i p k) e answer

  -- A refusal of the place is one of reading it.
  pub readable_refused : NamedIs nv Γ i p r → {n : Reason} → r ≡ Err n → judge_readable nv ns Γ i p ≡ err (number_of n, i)
  unfolding judge_readable ◌>>=◌
  readable_refused answer e = rw (named_refused nv Γ i p answer e)

  -- A refusal of reading it is one of a number there.
  pub number_refused : ReadableIs nv ns Γ i p r → {n : Reason} → r ≡ Err n → judge_number nv ns Γ i p ≡ err (number_of n, i)
  unfolding judge_number ◌>>=◌
  number_refused answer e = rw (read_refused answer e)

module _ (nv : ℕ) (Γ : Environment) (p : Place) {r : Result ℕ Reason} where
  pub whole_at : WholeIs nv Γ p r → {rest : ℕ} → r ≡ Ok rest → (F : Named Γ p rest) × (value_whole nv Γ p.root F.variable ≡ true)
  whole_at answer e = subst (λ (k : Result ℕ Reason). WholeIs nv Γ p k) e answer

  pub whole_there_law : {rest : ℕ} → r ≡ Ok rest → (F : Named Γ p rest) → value_whole nv Γ p.root F.variable ≡ true → WholeIs nv Γ p r
  whole_there_law e F w = subst (λ (k : Result ℕ Reason). WholeIs nv Γ p k) (sym e) (F, w)

  pub whole_refused : {n : Reason} → r ≡ Err n → WholeIs nv Γ p r
  whole_refused e = subst (λ (k : Result ℕ Reason). WholeIs nv Γ p k) (sym e) tt

module _ (judged : Judged (Unit {0})) (i : ℕ) {r : Result (Unit {0}) Reason} where
  pub number_at : NumberIs judged i r → {u : Unit {0}} → r ≡ Ok u → judged ≡ ok tt
  number_at answer e = subst (NumberIs judged i) e answer

  pub no_number : NumberIs judged i r → {n : Reason} → r ≡ Err n → judged ≡ err (number_of n, i)
  no_number answer e = subst (NumberIs judged i) e answer

-- ---- a place named

pub name_unknown : (nv : ℕ) (Γ : Environment) (i : ℕ) (p : Place) (x : ℕ) → x ≡ p.root → in_scope (Γ x) (31, i) ≡ err (31, i) → NamedIs nv Γ i p (Err reason.NotInScope)
unfolding judge_place judge_move ◌>>=◌
name_unknown nv Γ i p x at h = let k : in_scope (Γ p.root) (31, i) ≡ err (31, i) = subst (λ (y : ℕ). in_scope (Γ y) (31, i) ≡ err (31, i)) at h in (rw k, λ ns. rw k)

pub name_short : (nv : ℕ) (Γ : Environment) (i : ℕ) (p : Place) (v : Variable) → Γ p.root ≡ live v → length v.chain < p.follows → NamedIs nv Γ i p (Err reason.ChainTooShort)
unfolding judge_place judge_move in_scope need ◌>>=◌
name_short nv Γ i p v e l = (rw (e, lt-leb p.follows (length v.chain) l), λ ns. rw (e, lt-leb p.follows (length v.chain) l))

-- What the status says at x is so of the place's root.
pub named_root : (env : List Row) (x y : ℕ) → x ≡ y → 2 ≤ entry_word env x 0 → environment_of env y ≡ live (variable_at env y)
named_root env x y e h = subst (λ (z : ℕ). environment_of env z ≡ live (variable_at env z)) e (status_live env x h)

-- An end is in scope.
low_end : (env : List Row) (nv : ℕ) → NeatTable env nv → (f : ℕ → Bool) (m y : ℕ) → ends_of (environment_of env) m f y ≡ true → y < nv
unfolding own_link
low_end env nv T f m y h = go (f y) (environment_of env y) refl h
  where
    go : (b : Bool) (sl : Slot) → environment_of env y ≡ sl → pick b (own_link sl (links_of sl - m)) false ≡ true → y < nv
    go true free e h = absurd (false≢true h)
    go true used e h = absurd (false≢true h)
    go true (live v) e h = T.1.1.low y v e
    go false sl e h = absurd (false≢true h)

-- A named place, by the words of the table.
module _ (env : List Row) (p : Place) {rest : ℕ} (F : Named (environment_of env) p rest) where
  pub variable_is : F.variable ≡ variable_at env p.root
  variable_is = (live_status env p.root F.variable F.is).1

  pub on_chain : drop p.follows (chain_of (links_at env p.root)) ≡ chain_of rest
  on_chain = ap (λ (v : Variable). drop p.follows v.chain) (sym variable_is) ∙ F.after

  long_enough : p.follows ≤ length (chain_of (links_at env p.root))
  long_enough = subst (λ (v : Variable). p.follows ≤ length v.chain) variable_is F.long

  -- The root, which the code has as x.
  module _ (x : ℕ) (at : x ≡ p.root) where
    pub named_live : environment_of env x ≡ live (variable_at env x)
    named_live = subst (λ (y : ℕ). environment_of env y ≡ live (variable_at env y)) (sym at) (F.is ∙ ap live variable_is)

    pub named_inside : (nv : ℕ) → NeatTable env nv → x < nv
    named_inside nv T = let z = live_inside env nv T.0 p.root F.variable F.is in omega arith

    pub whole_is : (nv : ℕ) (w b : Bool) → w ≡ value_whole nv (environment_of env) x (variable_at env x) → w ≡ b → value_whole nv (environment_of env) p.root F.variable ≡ b
    whole_is nv w b h k =
        ap (value_whole nv (environment_of env) p.root) variable_is ∙ ap (λ (y : ℕ). value_whole nv (environment_of env) y (variable_at env y)) (sym at) ∙ sym h ∙ k

    pub search_fits : (f : ℕ) → f ≡ p.follows → f ≤ length (chain_of (links_at env x))
    search_fits f follows = omega (arith, long_enough, follows, ap (λ (y : ℕ). length (chain_of (links_at env y))) at)

module _ (env : List Row) (nv : ℕ) (T : NeatTable env nv) (i : ℕ) (p : Place) {rest : ℕ} where
  module _ (F : Named (environment_of env) p rest) where
    -- The roots of a borrow of the place.
    borrowed : (x : ℕ) → x ≡ p.root → (r : Roots) → ((y : ℕ) → has r y ≡ eqb x y) → places_of 128 (has r) (long_at env) (length (chain_of rest)) ≡ p ∷ []
    borrowed x e r h =
        let L = F.long in
        let a : length F.variable.chain ≡ long_at env p.root = ap (λ (v : Variable). length v.chain) (variable_is env p F) in
        let b = length-drop p.follows F.variable.chain in
        let d = ap (λ (ks : List Link). length ks) F.after in
        let f : p.follows ≡ long_at env p.root - length (chain_of rest) = omega arith in
        let g = named_inside env p F p.root refl nv T in
        let j = T.0.1 in
        same_roots 128 (has r) (eqb p.root) (long_at env) (long_at env) (length (chain_of rest)) (λ y. h y ∙ ap (λ (z : ℕ). eqb z y) e) (λ y q. refl)
        ∙ sym (one_place 128 p (long_at env) (length (chain_of rest)) (omega arith) (ap (place p.root) f))

    -- ---- judging the place (LANGUAGE 3.16): a search from its root with its follows, which leaves the links after it

    module _ (x : ℕ) (at : x ≡ p.root) (f : ℕ) (follows : f ≡ p.follows) where
      abbrev m : ℕ
      m = long_at env x - f

      remaining : long_at env p.root - p.follows ≡ m
      remaining = ap₂ (λ (y k : ℕ). long_at env y - k) (sym at) (sym follows)

      left : m ≡ length (chain_of rest)
      left = sym remaining ∙ sym (length-drop p.follows (chain_of (links_at env p.root))) ∙ ap (λ (ks : List Link). length ks) (on_chain env p F)

      module _ (r : Result Ends Reason) (S : Searched nv (environment_of env) x m false r) where
        abbrev ByRoots : ℕ → Type 0
        ByRoots k =
            (ends : List Place) × (SameSet ends (places_of nv (ends_of (environment_of env) k S.met) (lengths (environment_of env)) k))
            × (judge_place nv (environment_of env) i p
            ≡ pick (every (passes false (environment_of env)) (places_of nv S.met (lengths (environment_of env)) k)) (ok (paths.located (variable_at env p.root) ends)) (err (33, i)))

        from_root : MetFrom (environment_of env) m p.root S.met
        from_root = subst (λ (y : ℕ). MetFrom (environment_of env) m y S.met) at S.is

        by_roots : ByRoots m
        unfolding passes_slot
        by_roots =
            subst ByRoots remaining
            (paths.place_by_roots T.1.1 p (variable_at env p.root) (named_live env p F p.root refl) (long_enough env p F) S.met (subst (λ (k : ℕ). MetFrom (environment_of env) k p.root S.met) (sym remaining) from_root) i)

        pub place_moved : (k : Reason) → r ≡ Err k → judge_place nv (environment_of env) i p ≡ err (number_of k, i)
        place_moved k e =
            by_roots.2 ∙ ap (λ (b : Bool). pick b (ok (paths.located (variable_at env p.root) by_roots.0)) (err (33, i))) (S.moved k e).1
            ∙ ap (λ (m : Reason). err (number_of m, i)) (sym (S.moved k e).0)

        pub place_there : (s : Roots) → r ≡ Ok (ends.At s) → (links : ℕ) → links ≡ links_at env x → PlaceFound nv (environment_of env) p links rest s (judge_place nv (environment_of env) i p)
        place_there s e links same = record {
          located = paths.located (variable_at env p.root) by_roots.0;
          is = by_roots.2 ∙ ap (λ (b : Bool). pick b (ok (paths.located (variable_at env p.root) by_roots.0)) (err (33, i))) (S.passed s e);
          root = named_live env p F p.root refl;
          chain = ap chain_of (ap (links_at env) (sym at) ∙ sym same);
          after = on_chain env p F;
          low = λ y h. low_end env nv T S.met m y (sym (S.to s e y) ∙ h);
          to = subst (λ (k : ℕ). SameSet by_roots.0 (places_of nv (has s) (lengths (environment_of env)) k)) left
              (subst (λ (ps : List Place). SameSet by_roots.0 ps)
              (same_roots nv (ends_of (environment_of env) m S.met) (has s) (lengths (environment_of env)) (lengths (environment_of env)) m (λ y. sym (S.to s e y)) (λ y h. refl)) by_roots.1);
        }

    module _ (x : ℕ) (at : x ≡ p.root) (w : Bool) (whole : w ≡ value_whole nv (environment_of env) x (variable_at env x)) where
      -- The value not whole, in a rule that asks for that first.
      moved : w ≡ false → {A : Type 0} (next : rules.Located → Judged A)
          → (judge_place nv (environment_of env) i p >>= λ l. need (value_whole nv (environment_of env) p.root l.root) (33, i) >>= λ _. next l) ≡ err (33, i)
      moved h next = not_whole T.1.1 p F.variable F.is F.long i (whole_is env p F x at nv w false whole h) next

      path : w ≡ true → (to : List Place) × (judge_place nv (environment_of env) i p ≡ ok (paths.located F.variable to))
      path h = whole_path T.1.1 p F.variable F.is F.long i (whole_is env p F x at nv w true whole h)

      -- ---- readable (LANGUAGE 3.19)

      module _ (ns : Unfinished) where
        pub readable_moved : w ≡ false → judge_readable nv ns (environment_of env) i p ≡ err (33, i)
        unfolding judge_readable
        readable_moved h = moved h _

        module _ (yes-whole : w ≡ true) (b : Bool) (barred : b ≡ read_barred nv ns (environment_of env) p.root) where
          -- The last test of a readable place, by whether reading is barred.
          abbrev tested : Bool → Judged rules.Located
          tested d = need (not d) (34, i) >>= λ _. ok (paths.located F.variable (path yes-whole).0)

          pub readable_barred : b ≡ true → judge_readable nv ns (environment_of env) i p ≡ err (34, i)
          unfolding judge_readable need ◌>>=◌
          readable_barred h = rw ((path yes-whole).1, whole_is env p F x at nv w true whole yes-whole) (ap tested (sym barred ∙ h))

          pub readable_there : b ≡ false → Read nv ns (environment_of env) i p rest
          unfolding judge_readable need ◌>>=◌
          readable_there h = record {
            named = F;
            to = (path yes-whole).0;
            is = rw ((path yes-whole).1, whole_is env p F x at nv w true whole yes-whole) (ap tested (sym barred ∙ h));
          }

        -- ---- exclusive borrow (LANGUAGE 3.22)

        pub exclusive_moved : w ≡ false → judge_exclusive nv ns (environment_of env) i p ≡ err (33, i)
        unfolding judge_exclusive
        exclusive_moved h = moved h _

        module _ (yes-whole : w ≡ true) (f links : ℕ) (follows : f ≡ p.follows) (same : links ≡ links_at env x) (u : Bool) (unshared : u ≡ no_shared (take f (chain_of links))) where
          unshared_is : (d : Bool) → u ≡ d → no_shared (take p.follows F.variable.chain) ≡ d
          unshared_is d h =
              ap₂ (λ (k : ℕ) (ks : List Link). no_shared (take k ks)) (sym follows) (ap (λ (v : Variable). v.chain) (variable_is env p F) ∙ ap chain_of (ap (links_at env) (sym at) ∙ sym same)) ∙ sym unshared ∙ h

          pub exclusive_shared : u ≡ false → judge_exclusive nv ns (environment_of env) i p ≡ err (36, i)
          unfolding judge_exclusive need ◌>>=◌
          exclusive_shared h = rw ((path yes-whole).1, whole_is env p F x at nv w true whole yes-whole, unshared_is false h)

          module _ (yes-unshared : u ≡ true) (b : Bool) (barred : b ≡ write_barred nv ns (environment_of env) p.root) where
            pub exclusive_barred : b ≡ true → judge_exclusive nv ns (environment_of env) i p ≡ err (35, i)
            unfolding judge_exclusive need ◌>>=◌
            exclusive_barred h = rw ((path yes-whole).1, whole_is env p F x at nv w true whole yes-whole, unshared_is true yes-unshared, sym barred ∙ h)

            pub exclusive_there : b ≡ false → (r : Roots) → ((y : ℕ) → has r y ≡ eqb x y) → (v : Verdict)
                → Answers v (at_most8 (λ e. type_of (exclusive ∷ chain_of rest) (end_in e (exclusive ∷ chain_of rest) r))) → answered env i v ≡ judge_exclusive nv ns (environment_of env) i p
            unfolding judge_exclusive need ◌>>=◌ borrow_end leading_boxes
            exclusive_there h r o v a =
                let end : exclusive_of (places_of 128 (has r) (long_at env) (length (chain_of rest))) ≡ exclusive_of (p ∷ []) = ap exclusive_of (borrowed x at r o) in
                rw ((path yes-whole).1, whole_is env p F x at nv w true whole yes-whole, unshared_is true yes-unshared, sym barred ∙ h, F.after)
                (a env i ∙ ap (λ (k : Borrow). need (leb (suc (length (chain_of rest))) max_links) (42, i) >>= λ _. ok (environment_of env, some (type_of (exclusive ∷ chain_of rest) k))) end)

  -- ---- a readable place

  module _ {ns : Unfinished} (R : Read nv ns (environment_of env) i p rest) where
    -- Shared borrow (LANGUAGE 3.21), of a place that passes no shared link.
    pub shared_there : (x : ℕ) → x ≡ p.root → last_shared (take p.follows (chain_of (links_at env x))) ≡ none → (r : Roots) → ((y : ℕ) → has r y ≡ eqb x y) → (v : Verdict)
        → Answers v (at_most8 (λ e. type_of (shared ∷ chain_of rest) (end_in e (shared ∷ chain_of rest) r))) → answered env i v ≡ judge_shared nv ns (environment_of env) i p
    unfolding judge_shared recorded_places need ◌>>=◌ borrow_end leading_boxes
    shared_there x at none_passed r o v a =
        let end : shared_of (places_of 128 (has r) (long_at env) (length (chain_of rest))) ≡ shared_of (p ∷ []) = ap shared_of (borrowed R.named x at r o) in
        let passed : last_shared (take p.follows R.named.variable.chain) ≡ none = ap (λ (u : Variable). last_shared (take p.follows u.chain)) (variable_is env p R.named ∙ ap (variable_at env) (sym at)) ∙ none_passed in
        rw (R.is, passed, R.named.after)
        (a env i ∙ ap (λ (k : Borrow). need (leb (suc (length (chain_of rest))) max_links) (42, i) >>= λ _. ok (environment_of env, some (type_of (shared ∷ chain_of rest) k))) end)

    -- Copy (LANGUAGE 3.19).
    pub copy_refused : copies (chain_of rest) ≡ false → judge_copy nv ns (environment_of env) i p ≡ err (37, i)
    unfolding judge_copy need ◌>>=◌
    copy_refused h = rw (R.is, R.named.after, h)

    module _ (copied : copies (chain_of rest) ≡ true) where
      pub copy_is : judge_copy nv ns (environment_of env) i p ≡ ok (environment_of env, some (type_of (chain_of rest) (borrow_end (chain_of rest) (borrows_at (environment_of env) R.to))))
      unfolding judge_copy need ◌>>=◌
      copy_is = rw (R.is, R.named.after, copied)

      pub copy_number : is_number (chain_of rest) ≡ true → judge_copy nv ns (environment_of env) i p ≡ ok (environment_of env, some number_ty)
      copy_number h = copy_is ∙ ap (λ (t : Ty). ok (environment_of env, some t)) (number_type (chain_of rest) (borrows_at (environment_of env) R.to) h)
