-- Shared and exclusive borrows.
use Prim.Native.Nat.{ℕ, suc, ◌+◌, ◌-◌, ◌≤◌, ◌<◌}
use native.Mathlib.Omega.{arith}
use mathlib.Core.Path.{◌≡◌, refl, sym, ap, ap₂, ◌∙◌, subst}
use mathlib.Core.Logic.{◌≢◌, inl}
use mathlib.Core.Bool.{true, false, false≢true, not}
use mathlib.Core.Option.{Option, none, some}
use mathlib.Core.List.{List, [], ◌∷◌}
use lib.ListN.{length, take, drop, length-drop}
use borrow.Author.Tests.{not-true}
use Rattle.syntax.specs.Result.{ok, ◌>>=◌, need}
use Rattle.syntax.specs.Script.{Place}
use Rattle.statics.specs.Links.{Link, shared, exclusive, leading_boxes, no_shared, last_shared}
use Rattle.statics.specs.Environment.{Borrow, shared_of, exclusive_of, Variable, live, Environment, Ty, borrows_at}
use Rattle.statics.specs.Uses.{Unfinished, named_later}
use Rattle.statics.specs.Follow.{past, value_whole}
use Rattle.statics.specs.Bars.{read_barred, write_barred}
use Rattle.statics.specs.Neat.{place}
use Rattle.statics.specs.Rules.{Out, Located, judge_place, judge_readable, recorded_places, judge_shared, judge_exclusive}
use Rattle.dynamics.specs.Values.{Location, empty, reference}
use Rattle.dynamics.specs.Store.{State}
use Rattle.dynamics.specs.Locate.{locate}
use Rattle.dynamics.specs.Run.{run_borrow}
use Rattle.statics.proofs.Answers.{none≢some}
use Rattle.syntax.proofs.Answers.{then, needed}
use Rattle.safety.proofs.Memory.{Name, in_flight, var, Content, has, p_ref, var≢flight}
use Rattle.safety.proofs.NameMaps.{upd, upd_same, upd_other}
use Rattle.safety.proofs.Ghost as Gh
use Rattle.safety.proofs.Typing.{borrowed, is_exclusive, Fits, boxes, Reach, Ref, Holds, avoid_back}
use Rattle.statics.proofs.LinkChains.{drop_add, last_at}
use Rattle.safety.proofs.Paths.{unique}
use Rattle.safety.proofs.Known.{Known, by_name}
use Rattle.safety.proofs.Certificates.{Whole, root_whole}
use Rattle.statics.proofs.SetLaws.{past_in}
use Rattle.safety.proofs.Covering.{BorrowIn, in_shared, in_exclusive, borrow_among, borrow_exclusive_law, covered_whole}
use Rattle.safety.proofs.Inversion.{write_allowed, read_allowed, readable_ok}
use Rattle.safety.proofs.Invariant.{Invariant, deep_ghost}
use Rattle.safety.proofs.Settling.{Settled, in_use_holder}
use Rattle.safety.proofs.Finding.{Found}
use Rattle.safety.proofs.Following.{judged_found, is_whole}
use Rattle.safety.proofs.Lending.{beyond, Lender, lender}
use Rattle.safety.proofs.Progress.{Progress, unchanged}
use Rattle.safety.proofs.NewValue.{new_value}

module _ {nv : ℕ} {ns : Unfinished} {Γ : Environment} {lv : ℕ} {s : State} (I : Invariant nv ns Γ none lv s empty) where
  run_borrow_law : (i : ℕ) (p : Place) (loc : Location) → locate s i p ≡ ok loc → run_borrow s i p ≡ ok (s, reference loc)
  unfolding run_borrow ◌>>=◌
  run_borrow_law i p loc e = rw e refl

  -- A derivation with the value in flight, without it.
  pub from : (g : Gh.Slot) {w y : Name} {d r : ℕ} → Reach (upd I.Θ in_flight g) w d y r → y ≢ in_flight → Reach I.Θ w d y r
  from g D n =
      (avoid_back I.Θ (upd I.Θ in_flight g) (λ z. z ≡ in_flight) (λ z h. upd_other I.Θ in_flight g z h) (λ x Q p K h e. var≢flight e) D n).0

  -- A borrow of the place p, shared or exclusive, recorded against q: q leads where p leads.
  borrowing : (i : ℕ) (p : Place) (l : Located) (k : Link) (b : Gh.Borrow) (j : Borrow) (F : Found I p l i) (q : Place) (W : Gh.Variable)
      → I.Θ (var q.root) ≡ Gh.live W → boxes W < W.moved_from → (n : ℕ) → I.rank (var q.root) < n
      → drop p.follows F.X.chain ≡ drop q.follows W.chain → q.follows ≤ length W.chain
      → Reach I.Θ (var F.c) F.d (var q.root) q.follows → Known ns I.Θ (var q.root) → borrowed b ≡ some q
      → leading_boxes (k ∷ drop p.follows l.root.chain) ≡ 0 → Fits (k ∷ drop p.follows l.root.chain) b → BorrowIn b j
      → (is_exclusive b ≡ true → no_shared (take q.follows W.chain) ≡ true)
      → ((y : Name) (B : Gh.Variable) (k : Place) → Holds I.Θ y B k → q.root ≡ k.root → (is_exclusive b ≡ true → ⊥) × (is_exclusive B.borrow ≡ true → ⊥))
      → Progress nv ns Γ Γ (some (record { links = k ∷ drop p.follows l.root.chain; borrow = j })) lv (run_borrow s i p)
  borrowing i p l k b j F q W isW wh n lo ag far D kn eb bx ft' bi unshared ne =
      unchanged I (some t) (reference F.loc) (run_borrow s i p) (run_borrow_law i p F.loc F.run)
      (new_value I t b (reference F.loc) (p_ref F.loc) bx n bi
      (λ p' e. let z : q ≡ p' = let e2 : some q ≡ some p' = sym eb ∙ e in cc in rw (← z) kn)
      (record { fits = ft'; lost = λ h. absurd (omega arith); number = λ h e. absurd (none≢some (sym (ap borrowed e) ∙ eb)); outdated = λ h e. absurd (none≢some (sym (ap borrowed e) ∙ eb)); refs = λ h p' e. refs p' e })
      (λ y B p' k e K h. let z : q ≡ p' = let e2 : some q ≡ some p' = sym eb ∙ e in cc in ne y B k K (rw z h)))
    where
      t : Ty
      t = record { links = k ∷ drop p.follows l.root.chain; borrow = j }

      U : Gh.Variable
      U = Gh.fresh t.links b lv

      Θ' : Name → Gh.Slot
      Θ' = upd I.Θ in_flight (Gh.live U)

      H' : Name → Content
      H' = upd I.H in_flight (has 0 (reference F.loc))

      rank' : Name → ℕ
      rank' = upd I.rank in_flight n

      one : (p' : Place) → q ≡ p' → Ref Θ' H' I.ρ rank' in_flight U p'
      one p' z = subst (λ (y : Place). Ref Θ' H' I.ρ rank' in_flight U y) z (record {
        W = W;
        is = upd_other I.Θ in_flight (Gh.live U) (var q.root) var≢flight ∙ isW;
        whole = wh;
        lower = rw (upd_same I.rank in_flight n, upd_other I.rank in_flight n (var q.root) var≢flight) lo;
        agree = ap (λ (n : ℕ). drop (suc n) t.links) bx ∙ ap (λ (c : List Link). drop p.follows c) (sym F.cov_x.chain) ∙ ag;
        long = far;
        around = deep_ghost I q.root W isW;
        unshared = unshared;
        l = F.loc;
        shape = upd_same I.H in_flight (has 0 (reference F.loc)) ∙ ap (λ (n : ℕ). has n (reference F.loc)) (sym bx);
        row = λ w d E. let u = unique D (from (Gh.live U) E var≢flight) in F.row ∙ ap₂ I.ρ u.0 u.1;
      })

      refs : (p' : Place) → borrowed b ≡ some p' → Ref Θ' H' I.ρ rank' in_flight U p'
      refs p' e = one p' (let e2 : some q ≡ some p' = sym eb ∙ e in cc)

  -- The same recorded against p itself.
  borrowing_itself : (i : ℕ) (p : Place) (l : Located) (k : Link) (b : Gh.Borrow) (j : Borrow) → Found I p l i → named_later ns p.root ≡ true
      → leading_boxes l.root.chain < l.root.moved_from → borrowed b ≡ some p
      → leading_boxes (k ∷ drop p.follows l.root.chain) ≡ 0 → Fits (k ∷ drop p.follows l.root.chain) b → BorrowIn b j
      → (is_exclusive b ≡ true → no_shared (take p.follows l.root.chain) ≡ true)
      → ((y : Name) (B : Gh.Variable) (q : Place) → Holds I.Θ y B q → p.root ≡ q.root → (is_exclusive b ≡ true → ⊥) × (is_exclusive B.borrow ≡ true → ⊥))
      → Progress nv ns Γ Γ (some (record { links = k ∷ drop p.follows l.root.chain; borrow = j })) lv (run_borrow s i p)
  borrowing_itself i p l k b j F nm wh eb bx ft' bi unshared ne =
      borrowing i p l k b j F p F.X F.is_x (covered_whole F.cov_x wh) (suc (I.rank (var p.root))) (omega arith) refl (rw F.cov_x.chain F.long) F.reach (by_name nm) eb bx ft' bi
      (λ h. rw F.cov_x.chain (unshared h)) ne

  -- A shared borrow recorded against what the last shared link borrows, to which j follows lead.
  borrowing_behind : (i : ℕ) (p : Place) (l l₀ : Located) (j : ℕ) → Found I p l i → (F₀ : Found I (place p.root j) l₀ i) → Lender I (place p.root j) l₀ i F₀
      → j < p.follows
      → Progress nv ns Γ Γ (some (record { links = shared ∷ drop p.follows l.root.chain; borrow = shared_of (past (borrows_at Γ l₀.to) (p.follows - suc j)) })) lv (run_borrow s i p)
  unfolding leading_boxes
  borrowing_behind i p l l₀ j F F₀ L jr =
      borrowing i p l shared (Gh.shared_of k) (shared_of (past (borrows_at Γ l₀.to) n)) F k K.W K.is K.whole (I.rank (var F₀.c)) K.lower links far
      (beyond W q L.is (ap borrowed L.lends) (subst (λ (e : ℕ). Reach I.Θ (var F₀.c) e (var p.root) j) L.at F₀.reach) F.reach jr) L.known
      refl refl tt (in_shared k (past (borrows_at Γ l₀.to) n) (past_in q (borrows_at Γ l₀.to) n L.recorded)) (λ e. absurd (false≢true e))
      (λ y B h O e. (λ x. absurd (false≢true x), L.alone y B h O e))
    where
      W : Gh.Variable
      W = L.W

      q : Place
      q = L.q

      K : Ref I.Θ I.H I.ρ I.rank (var F₀.c) W q
      K = L.ref

      n : ℕ
      n = p.follows - suc j

      k : Place
      k = place q.root (q.follows + n)

      same : F₀.X.chain ≡ F.X.chain
      same = let z : F₀.X ≡ F.X = (let a = F₀.is_x in let b = F.is_x in cc) in ap (λ (y : Gh.Variable). y.chain) z

      -- The links from the last shared link on.
      there : drop j F.X.chain ≡ drop (boxes W) W.chain
      there = ap (λ (c : List Link). drop j c) (sym same) ∙ L.rest

      links : drop p.follows F.X.chain ≡ drop (q.follows + n) K.W.chain
      links =
          let a : p.follows ≡ j + (1 + n) = omega (arith, jr) in
          let b : boxes W + (1 + n) ≡ suc (boxes W) + n = omega arith in
          ap (λ (y : ℕ). drop y F.X.chain) a ∙ drop_add j (1 + n) F.X.chain ∙ ap (λ (c : List Link). drop (1 + n) c) there
          ∙ sym (drop_add (boxes W) (1 + n) W.chain) ∙ ap (λ (y : ℕ). drop y W.chain) b ∙ drop_add (suc (boxes W)) n W.chain
          ∙ ap (λ (c : List Link). drop n c) K.agree ∙ sym (drop_add q.follows n K.W.chain)

      far : q.follows + n ≤ length K.W.chain
      far =
          let a : length F.X.chain - j ≡ length W.chain - boxes W = sym (length-drop j F.X.chain) ∙ ap length there ∙ length-drop (boxes W) W.chain in
          let b : length W.chain - suc (boxes W) ≡ length K.W.chain - q.follows = sym (length-drop (suc (boxes W)) W.chain) ∙ ap length K.agree ∙ length-drop q.follows K.W.chain in
          let c : p.follows ≤ length F.X.chain = rw F.cov_x.chain F.long in
          omega (arith, jr, K.long)

  -- Whoever holds something is in use for the judge.
  module _ (js : Unfinished) (S : Settled js I) where
    -- What the judge records where no shared link is passed, and where one is.
    recorded_itself : (i : ℕ) (p : Place) (l : Located) (ps : List Place) → Found I p l i → named_later ns p.root ≡ true → leading_boxes l.root.chain < l.root.moved_from
        → read_barred nv js Γ p.root ≡ false → recorded_places nv Γ i p none ≡ ok ps
        → Progress nv ns Γ Γ (some (record { links = shared ∷ drop p.follows l.root.chain; borrow = shared_of ps })) lv (run_borrow s i p)
    unfolding recorded_places leading_boxes
    recorded_itself i p l ps F nm wh rb k =
        let z : p ∷ [] ≡ ps = cc in
        subst (λ (y : List Place). Progress nv ns Γ Γ (some (record { links = shared ∷ drop p.follows l.root.chain; borrow = shared_of y })) lv (run_borrow s i p)) z
        (borrowing_itself i p l shared (Gh.shared_of p) (shared_of (p ∷ [])) F nm wh refl refl tt (in_shared p (p ∷ []) (inl refl)) (λ e. absurd (false≢true e))
        (λ y B q K e. (λ k. absurd (false≢true k), λ k. let u = in_use_holder js I S y B q K in read_allowed nv js Γ p.root u.0 u.1 q rb u.3 u.4 u.5 u.6 (borrow_among u.7 q K.at) (borrow_exclusive_law u.7 k) (sym e))))

    recorded_behind : (i : ℕ) (p : Place) (l : Located) (ps : List Place) → Found I p l i → named_later ns p.root ≡ true → Whole Γ p.root l.root → (j : ℕ)
        → last_shared (take p.follows l.root.chain) ≡ some j → recorded_places nv Γ i p (some j) ≡ ok ps
        → Progress nv ns Γ Γ (some (record { links = shared ∷ drop p.follows l.root.chain; borrow = shared_of ps })) lv (run_borrow s i p)
    unfolding recorded_places
    recorded_behind i p l ps F nm wh j e k =
        let a = then (judge_place nv Γ i (place p.root j)) _ ps k in
        let F₀ = judged_found I i i (place p.root j) a.0 nm a.1 in
        let y : l.root ≡ a.0.root = (let b : live l.root ≡ live a.0.root = sym F.is ∙ F₀.is in cc) in
        let at = last_at p.follows l.root.chain j e in
        let L = lender I (place p.root j) a.0 i F₀ _ nm (subst (λ (v : Variable). Whole Γ p.root v) y wh) (subst (λ (v : Variable). drop j v.chain ≡ shared ∷ drop (suc j) l.root.chain) y at.1) in
        let z : past (borrows_at Γ a.0.to) (p.follows - suc j) ≡ ps = (let b = a.2 in cc) in
        subst (λ (y : List Place). Progress nv ns Γ Γ (some (record { links = shared ∷ drop p.follows l.root.chain; borrow = shared_of y })) lv (run_borrow s i p)) z
        (borrowing_behind i p l a.0 j F F₀ L at.0)

    pub case_shared : (i : ℕ) (p : Place) (out : Out) → named_later ns p.root ≡ true → judge_shared nv js Γ i p ≡ ok out → Progress nv ns Γ out.0 out.1 lv (run_borrow s i p)
    unfolding judge_shared
    case_shared i p out nm h =
        let a = then (judge_readable nv js Γ i p) _ out h in
        let b = readable_ok nv js Γ i p a.0 a.1 in
        let c = then (need _ (42, i)) _ out a.2 in
        let d = then (recorded_places nv Γ i p (last_shared (take p.follows a.0.root.chain))) _ out c.2 in
        let F = judged_found I i i p a.0 nm b.0 in
        let R = go a.0 d.0 F (is_whole nv Γ p.root a.0.root b.1) b.2 (last_shared (take p.follows a.0.root.chain)) refl d.1 in
        let z : (Γ, some (record { links = shared ∷ drop p.follows a.0.root.chain; borrow = shared_of d.0 })) ≡ out = let k = d.2 in cc in
        subst (λ (q : Out). Progress nv ns Γ q.0 q.1 lv (run_borrow s i p)) z R
      where
        go : (l : Located) (ps : List Place) → Found I p l i → Whole Γ p.root l.root → read_barred nv js Γ p.root ≡ false → (m : Option ℕ)
            → last_shared (take p.follows l.root.chain) ≡ m → recorded_places nv Γ i p m ≡ ok ps
            → Progress nv ns Γ Γ (some (record { links = shared ∷ drop p.follows l.root.chain; borrow = shared_of ps })) lv (run_borrow s i p)
        go l ps F wh rb none e k = recorded_itself i p l ps F nm (root_whole Γ p.root l.root F.is wh) rb k
        go l ps F wh rb (some j) e k = recorded_behind i p l ps F nm wh j e k

    pub case_exclusive : (i : ℕ) (p : Place) (out : Out) → named_later ns p.root ≡ true → judge_exclusive nv js Γ i p ≡ ok out → Progress nv ns Γ out.0 out.1 lv (run_borrow s i p)
    unfolding judge_exclusive leading_boxes
    case_exclusive i p out nm h =
        let a = then (judge_place nv Γ i p) _ out h in
        let w = then (need (value_whole nv Γ p.root a.0.root) (33, i)) _ out a.2 in
        let u = then (need (no_shared (take p.follows a.0.root.chain)) (36, i)) _ out w.2 in
        let b = then (need (not (write_barred nv js Γ p.root)) (35, i)) _ out u.2 in
        let c = then (need _ (42, i)) _ out b.2 in
        let F = judged_found I i i p a.0 nm a.1 in
        let R = borrowing_itself i p a.0 exclusive (Gh.exclusive_of p) (exclusive_of (p ∷ [])) F nm (root_whole Γ p.root a.0.root F.is (is_whole nv Γ p.root a.0.root (needed _ _ _ w.1))) refl refl tt (in_exclusive p (p ∷ []) (inl refl)) (λ e. needed _ _ _ u.1)
        (λ y B q K e. absurd (let u = in_use_holder js I S y B q K in write_allowed nv js Γ p.root u.0 u.1 q (not-true _ (needed _ _ _ b.1)) u.3 u.4 u.5 u.6 (borrow_among u.7 q K.at) (sym e))) in
        let z : (Γ, some (record { links = exclusive ∷ drop p.follows a.0.root.chain; borrow = exclusive_of (p ∷ []) })) ≡ out = let k = c.2 in cc in
        subst (λ (q : Out). Progress nv ns Γ q.0 q.1 lv (run_borrow s i p)) z R
