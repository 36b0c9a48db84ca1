-- Copy.
use Prim.Native.Nat.{ℕ, suc, ◌+◌}
use native.Mathlib.Omega.{arith}
use mathlib.Core.Path.{◌≡◌, refl, sym, ap, ◌∙◌, subst}
use mathlib.Core.Bool.{true, false≢true}
use mathlib.Core.Option.{none, some}
use mathlib.Core.List.{List, [], ◌∷◌}
use lib.ListN.{drop}
use Rattle.syntax.specs.Result.{Result, ok, Refusal, ◌>>=◌, need}
use Rattle.syntax.specs.Script.{Place}
use Rattle.statics.specs.Links.{Link, boxed, shared, exclusive, leading_boxes, copies}
use Rattle.statics.specs.Environment.{shared_of, borrow_end, Environment, Ty, borrows_at}
use Rattle.statics.specs.Uses.{Unfinished, named_later}
use Rattle.statics.specs.Rules.{Out, number_ty, Located, judge_readable, judge_copy}
use Rattle.dynamics.specs.Values.{Location, empty, reference, open_with}
use Rattle.dynamics.specs.Store.{State}
use Rattle.dynamics.specs.Locate.{locate, filled}
use Rattle.dynamics.specs.Run.{run_copy}
use Rattle.syntax.proofs.Answers.{then, needed}
use Rattle.safety.proofs.Memory.{Name, in_flight, var, Content, has, p_ref, var≢flight}
use Rattle.safety.proofs.NameMaps.{upd, upd_same, upd_other}
use Rattle.safety.proofs.Ghost as Gh
use Rattle.safety.proofs.Typing.{boxes, Ref}
use Rattle.statics.proofs.LinkChains.{drop_add}
use Rattle.safety.proofs.Certificates.{Whole}
use Rattle.safety.proofs.Covering.{in_shared}
use Rattle.safety.proofs.Inversion.{readable_ok}
use Rattle.safety.proofs.Invariant.{Invariant, deep_ghost}
use Rattle.safety.proofs.Finding.{Found, reads, number_there}
use Rattle.safety.proofs.Following.{judged_found, is_whole}
use Rattle.safety.proofs.Lending.{Lender, lender}
use Rattle.safety.proofs.Progress.{Progress, unchanged}
use Rattle.safety.proofs.NewValue.{new_value}
use Rattle.safety.proofs.Numbers.{case_number, run_num}
use Rattle.safety.proofs.Borrowing.{from}

module _ {nv : ℕ} {ns : Unfinished} {Γ : Environment} {lv : ℕ} {s : State} (I : Invariant nv ns Γ none lv s empty) where
  run_reference : (i : ℕ) (p : Place) (loc l' : Location) → locate s i p ≡ ok loc → s.store loc ≡ open_with (reference l')
      → run_copy s i p ≡ ok (s, reference l')
  unfolding run_copy filled ◌>>=◌
  run_reference i p loc l' e h = rw (e, h) refl

  -- A copy of a shared borrow holds what the original holds. The judge records what is borrowed by whatever the place may lead to.
  copy_shared : (i : ℕ) (p : Place) (l : Located) (ks : List Link) → Found I p l i → named_later ns p.root ≡ true → Whole Γ p.root l.root
      → drop p.follows l.root.chain ≡ shared ∷ ks
      → Progress nv ns Γ Γ (some (record { links = shared ∷ ks; borrow = shared_of (borrows_at Γ l.to) })) lv (run_copy s i p)
  unfolding leading_boxes
  copy_shared i p l ks F nm wh e =
      unchanged I (some t) (reference K.l) (run_copy s i p)
      (run_reference i p F.loc K.l F.run (reads I F.loc (I.ρ w (boxes W)) (open_with (reference K.l)) (F.row ∙ ap (λ (k : ℕ). I.ρ w k) L.at) (I.mem.leaf w (boxes W) (reference K.l) K.shape)))
      (new_value I t (Gh.shared_of q) (reference K.l) (p_ref K.l) refl (I.rank w) (in_shared q (borrows_at Γ l.to) L.recorded)
      (λ p' f. let z : q ≡ p' = let f2 : some q ≡ some p' = f in cc in rw (← z) L.known)
      (record {
        fits = tt;
        lost = λ h. absurd (omega arith);
        number = λ h n. absurd (let z : ◌≡◌ {A = ℕ} 0 1 = cc in omega arith);
        outdated = λ h n. absurd (let z : ◌≡◌ {A = ℕ} 0 1 = cc in omega arith);
        refs = λ h q' f. subst (λ (y : Place). Ref Θ' H' I.ρ rank' in_flight U y) (let f2 : some q ≡ some q' = f in cc) R;
      })
      (λ y A p' q' f O r. let z : q ≡ p' = cc in (λ k. absurd (false≢true k), L.alone y A q' O (ap (λ (k : Place). k.root) z ∙ r))))
    where
      L : Lender I p l i F
      L = lender I p l i F ks nm wh e

      W : Gh.Variable
      W = L.W

      w : Name
      w = var F.c

      q : Place
      q = L.q

      K : Ref I.Θ I.H I.ρ I.rank w W q
      K = L.ref

      t : Ty
      t = record { links = shared ∷ ks; borrow = shared_of (borrows_at Γ l.to) }

      U : Gh.Variable
      U = Gh.fresh (shared ∷ ks) (Gh.shared_of q) lv

      Θ' : Name → Gh.Slot
      Θ' = upd I.Θ in_flight (Gh.live U)

      H' : Name → Content
      H' = upd I.H in_flight (has 0 (reference K.l))

      rank' : Name → ℕ
      rank' = upd I.rank in_flight (I.rank w)

      same : ks ≡ drop (suc (boxes W)) W.chain
      same =
          let y : suc (boxes W) ≡ boxes W + 1 = omega arith in
          let c : drop (boxes W) W.chain ≡ shared ∷ ks = sym L.rest ∙ ap (λ (k : List Link). drop p.follows k) F.cov_x.chain ∙ e in
          sym (ap (λ (k : ℕ). drop k W.chain) y ∙ drop_add (boxes W) 1 W.chain ∙ ap (λ (k : List Link). drop 1 k) c)

      R : Ref Θ' H' I.ρ rank' in_flight U q
      R = record {
        W = K.W;
        is = upd_other I.Θ in_flight (Gh.live U) (var q.root) var≢flight ∙ K.is;
        whole = K.whole;
        lower = rw (upd_same I.rank in_flight (I.rank w), upd_other I.rank in_flight (I.rank w) (var q.root) var≢flight) K.lower;
        agree = same ∙ K.agree;
        long = K.long;
        around = deep_ghost I q.root K.W K.is;
        unshared = λ h. absurd (false≢true h);
        l = K.l;
        shape = upd_same I.H in_flight (has 0 (reference K.l));
        row = λ w' d' D. K.row w' d' (from I (Gh.live U) D var≢flight);
      }

  pub case_copy : (js : Unfinished) (i : ℕ) (p : Place) (out : Out) → named_later ns p.root ≡ true → judge_copy nv js Γ i p ≡ ok out → Progress nv ns Γ out.0 out.1 lv (run_copy s i p)
  unfolding judge_copy copies borrow_end
  case_copy js i p out nm h =
      let a = then (judge_readable nv js Γ i p) _ out h in
      let b = readable_ok nv js Γ i p a.0 a.1 in
      let c = then (need (copies (drop p.follows a.0.root.chain)) (37, i)) _ out a.2 in
      let F = judged_found I i i p a.0 nm b.0 in
      go a.0 F (is_whole nv Γ p.root a.0.root b.1) (drop p.follows a.0.root.chain) refl (needed _ _ _ c.1) c.2
    where
      go : (l : Located) → Found I p l i → Whole Γ p.root l.root → (ks : List Link) → drop p.follows l.root.chain ≡ ks → copies ks ≡ true
          → ◌≡◌ {A = Result Refusal Out} (ok (Γ, some (record { links = ks; borrow = borrow_end ks (borrows_at Γ l.to) }))) (ok out)
          → Progress nv ns Γ out.0 out.1 lv (run_copy s i p)
      go l F wh [] e k q =
          let N = number_there I p l i F wh e in
          let z : (Γ, some number_ty) ≡ out = cc in
          subst (λ (y : Out). Progress nv ns Γ y.0 y.1 lv (run_copy s i p)) z (case_number I N.0 (run_copy s i p) (run_num I i p F.loc N.0 F.run (N.2 F.loc F.run)).1)
      go l F wh (boxed ∷ ks) e k q = absurd (false≢true k)
      go l F wh (shared ∷ ks) e k q =
          let z : (Γ, some (record { links = shared ∷ ks; borrow = shared_of (borrows_at Γ l.to) })) ≡ out = cc in
          subst (λ (y : Out). Progress nv ns Γ y.0 y.1 lv (run_copy s i p)) z (copy_shared i p l ks F nm wh e)
      go l F wh (exclusive ∷ ks) e k q = absurd (false≢true k)
