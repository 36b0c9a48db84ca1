-- Every term that the judge accepts runs to its end and keeps the invariant.
use Prim.Native.Nat.{ℕ, suc}
use native.Mathlib.Omega.{arith}
use mathlib.Core.Path.{◌≡◌, refl, sym, ap, ◌∙◌, subst}
use mathlib.Core.Logic.{◌≢◌}
use mathlib.Core.Bool.{Bool, true, false}
use mathlib.Core.Option.{Option, none, some}
use mathlib.Core.List.{[], ◌∷◌, ◌++◌, append_assoc}
use lib.ListN.{drop}
use lib.Dec.{eqb}
use Rattle.syntax.specs.Result.{Result, ok, Refusal, ◌>>=◌, need, pick}
use Rattle.syntax.specs.Script.{Place, Term, number, reading, copy, move, borrow_shared, borrow_exclusive, box, declare, assign, below, block, choice, sum, Terms, last, more}
use Rattle.syntax.specs.Measures.{sizes}
use Rattle.statics.specs.Environment.{Slot, free, used, Environment, Ty, update, is_free, lives_at, leave_slot, leave}
use Rattle.statics.specs.Uses.{Unfinished, naming, finishing, finishing_all, named_later}
use Rattle.statics.specs.Choice.{carried, joined, agreeing, either}
use Rattle.statics.specs.Rules.{Out, number_ty, judge_number, judge_below, judge_assign, borrow_in, judge_block_end, judge_choice}
use Rattle.statics.specs.Judge.{judge, judges}
use Rattle.statics.proofs.Answers.{was_free}
use Rattle.statics.proofs.Slots.{free≢live, used≢live, update_same, update_other, leave_live}
use Rattle.statics.proofs.Finishing.{left_after, left_after_block, named_next, named_after, named_before}
use Rattle.statics.proofs.InUse.{in_use_named}
use Rattle.statics.specs.Neat.{LetsBelow, LetsBelowAll}
use Rattle.statics.proofs.NeatSteps.{Lived}
use Rattle.dynamics.specs.Values.{empty, num}
use Rattle.dynamics.specs.Store.{State, Ran}
use Rattle.dynamics.specs.Drop.{drop_value}
use Rattle.dynamics.specs.Signed.{compared, held_sum}
use Rattle.dynamics.specs.Run.{Outcome, run_number, run_pair, run_block_end, entered, run, runs}
use Rattle.syntax.proofs.Answers.{then, after, needed}
use Rattle.safety.proofs.Invariant.{Invariant, later}
use Rattle.safety.proofs.Settling.{Settled, settle, is_settled}
use Rattle.safety.proofs.Progress.{Progress, and_then, finished}
use Rattle.safety.proofs.Numbers.{case_number, one_number, case_pair}
use Rattle.safety.proofs.Borrowing.{case_shared, case_exclusive}
use Rattle.safety.proofs.Copying.{case_copy}
use Rattle.safety.proofs.Moving.{case_move}
use Rattle.safety.proofs.Boxing.{after_box}
use Rattle.safety.proofs.Letting.{taking, after_let}
use Rattle.safety.proofs.AssignJudged.{after_assign}
use Rattle.safety.proofs.Forgetting.{forget}
use Rattle.safety.proofs.Leaving.{leave_same, late_level}
use Rattle.safety.proofs.BlockEnd.{entering, block_ends}
use Rattle.safety.proofs.Joining.{carrying, after_first, after_second}

module _ (nv : ℕ) (readings : ℕ → ℕ) where
  -- If the judge accepts the term where the invariant holds, it runs to its end and the invariant holds after it.
  -- ns is the terms that have not finished before it, rest those that have not after it.
  unfoldable pub Sound : Term → Type 0
  Sound t = (lv : ℕ) (ns rest : Unfinished) (Γ : Environment) (s : State) (out : Out) → LetsBelow nv t → ns ≡ finishing t ++ rest → judge nv t lv ns Γ ≡ ok out
      → Invariant nv ns Γ none lv s empty → Progress nv rest Γ out.0 out.1 lv (run readings t s)

  unfoldable pub Sounds : Terms → Type 0
  Sounds ts = (lv : ℕ) (ns rest : Unfinished) (Γ : Environment) (s : State) (i : ℕ) (out : Out) → LetsBelowAll nv ts → ns ≡ finishing_all ts ++ rest → judges nv ts lv ns Γ ≡ ok out
      → Invariant nv ns Γ none lv s empty → Progress nv rest Γ out.0 out.1 lv (runs readings ts i s)

  sound_box : (i : ℕ) (t : Term) → Sound t → Sound (box i t)
  unfolding Sound LetsBelow judge run finishing
  sound_box i t ih lv ns rest Γ s out w e h I =
      let a = then (judge nv t lv ns Γ) _ out h in
      finished (naming []) refl
      (and_then (run readings t s) _ (ih lv ns (naming [] ++ rest) Γ s a.0 w (e ∙ append_assoc (finishing t) (naming []) rest) a.1 I) (λ s' v J. after_box a.0.1 J i out a.2))

  sound_assign : (i : ℕ) (p : Place) (t : Term) → Sound t → Sound (assign i p t)
  unfolding Sound LetsBelow judge run finishing
  sound_assign i p t ih lv ns rest Γ s out w e h I =
      let a = then (judge nv t lv ns Γ) _ out h in
      let q = e ∙ append_assoc (finishing t) (naming (p.root ∷ [])) rest in
      finished (naming (p.root ∷ [])) refl
      (and_then (run readings t s) _ (ih lv ns (naming (p.root ∷ []) ++ rest) Γ s a.0 w q a.1 I)
      (λ s' v J. after_assign (naming (p.root ∷ []) ++ rest) a.0.1 J i p out (named_next [] [] p.root rest) (named_next [] [] p.root rest) (in_use_named nv _ out.0) (subst (λ (m : Unfinished). judge_assign nv m a.0.0 i p a.0.1 ≡ ok out) (left_after t ns (naming (p.root ∷ []) ++ rest) q) a.2)))

  sound_let : (i x : ℕ) (t : Term) → Sound t → Sound (declare i x t)
  unfolding Sound LetsBelow judge run finishing
  sound_let i x t ih lv ns rest Γ s out w e h I =
      let f = then (need (is_free (Γ x)) (30, i)) _ out h in
      let fx = was_free (Γ x) (needed _ _ _ f.1) in
      let a = then (judge nv t lv ns (update Γ x used)) _ out f.2 in
      let R = ih lv ns (naming (x ∷ []) ++ rest) (update Γ x used) s a.0 w.1 (e ∙ append_assoc (finishing t) (naming (x ∷ [])) rest) a.1 (taking x fx I) in
      let B = after_let a.0.1 R.inv i x out (R.stay x (update_same Γ x used)) w.0 a.2 in
      finished (naming (x ∷ [])) refl (record {
        s = B.0;
        v = empty;
        ran = after (run readings t s) _ (R.s, R.v) (ok (B.0, empty)) R.ran B.1;
        inv = B.2;
        keep = λ y q e l.
            let b = B.3 y q e l in
            let c = R.keep y b.0 b.1 (omega (arith, b.2)) in
            (c.0, sym (update_other Γ x used y (λ k. used≢live (sym (update_same Γ x used) ∙ ap (λ (n : ℕ). update Γ x used n) (sym k) ∙ c.1))) ∙ c.1, c.2 ∙ b.2);
        stay = λ y e.
            let n : y ≢ x = λ k. let z : free ≡ used = sym fx ∙ ap Γ (sym k) ∙ e in let y : ◌≡◌ {A = ℕ} 0 1 = cc in omega arith in
            B.4 y n ∙ R.stay y (update_other Γ x used y n ∙ e);
        lives = λ y k e.
            let n : y ≢ x = λ h. free≢live (sym fx ∙ ap Γ (sym h) ∙ e) in
            let a = R.lives y k (update_other Γ x used y n ∙ e) in
            (a.0, B.4 y n ∙ a.1, a.2, a.3);
      })

  -- Besides: nothing is in scope after a block that was not before.
  SoundBlock : ℕ → Terms → Type 0
  SoundBlock i ts = (lv : ℕ) (ns rest : Unfinished) (Γ : Environment) (s : State) (out : Out) → LetsBelowAll nv ts → ns ≡ (finishing_all ts ++ naming []) ++ rest
      → (judges nv ts (suc lv) ns Γ >>= λ o. judge_block_end nv lv o.0 i o.1) ≡ ok out → Invariant nv ns Γ none lv s empty
      → (Progress nv rest Γ out.0 out.1 lv (runs readings ts i (entered s) >>= λ o. run_block_end i s.opened o))
      × (Lived Γ out.0)

  sound_terms : (i : ℕ) (ts : Terms) → Sounds ts → SoundBlock i ts
  unfolding SoundBlock Sounds judge_block_end leave leave_slot
  sound_terms i ts ih lv ns rest Γ s out w e h I =
      let a = then (judges nv ts (suc lv) ns Γ) _ out h in
      let b = then (need (lives_at a.0.0 (borrow_in nv a.0.1) lv) (40, i)) _ out a.2 in
      let R = ih (suc lv) ns (naming [] ++ rest) Γ (entered s) i a.0 w (e ∙ append_assoc (finishing_all ts) (naming []) rest) a.1 (entering I) in
      let K : Lived Γ (leave lv a.0.0) =
      λ x q e. let l = leave_live lv (a.0.0 x) q e in R.keep x q l.0 (omega (arith, l.1)) in
      let E = block_ends a.0.1 R.inv (needed _ _ _ b.1) s.opened i
      (λ x q e. let k = K x q e in let c = I.scope x k.0 k.1 in (λ l. c.0 (omega (arith, k.2)), λ l. let d = c.1 l in omega (arith, k.2))) in
      let z : (leave lv a.0.0, a.0.1) ≡ out = let k = b.2 in cc in
      subst (λ (q : Out). (Progress nv rest Γ q.0 q.1 lv (runs readings ts i (entered s) >>= λ o. run_block_end i s.opened o)) × (Lived Γ q.0)) z (
        finished (naming []) refl (record {
          s = E.0;
          v = R.v;
          ran = after (runs readings ts i _) _ (R.s, R.v) (ok (E.0, R.v)) R.ran E.1;
          inv = E.2;
          keep = λ x q e l. K x q e;
          stay = λ x e. ap (λ (k : Slot). leave_slot lv k) (R.stay x e);
          lives = λ x k e.
              let q = R.lives x k e in
              let d = I.deep x k e in
              (q.0, leave_same lv (a.0.0 x) (λ g. let y = late_level lv (a.0.0 x) q.0 q.1 g in omega (arith, q.3)) ∙ q.1, q.2, q.3);
        }),
        K,
      )

  sound_block : (i : ℕ) (ts : Terms) → Sounds ts → Sound (block i ts)
  unfolding Sound SoundBlock LetsBelow judge run finishing
  sound_block i ts ih lv ns rest Γ s out w e h I = (sound_terms i ts ih lv ns rest Γ s out w e h I).0

  run_choice : (i : ℕ) (p : Place) (s : State) (n : ℕ) (a b : Ran Outcome) → run_number s i p ≡ ok n
      → (run_number s i p >>= λ n. pick (eqb n 0) b a) ≡ pick (eqb n 0) b a
  unfolding ◌>>=◌
  run_choice i p s n a b e = rw e refl

  -- A choice: whichever block runs, what is known after either holds after that one.
  sound_choice : (i : ℕ) (p : Place) (j : ℕ) (us : Terms) (k : ℕ) (vs : Terms) → Sounds us → Sounds vs → Sound (choice i p j us k vs)
  unfolding Sound SoundBlock LetsBelow judge run judge_choice finishing
  sound_choice i p j us k vs ihu ihv lv ns rest Γ s out w e h I =
      let a = then (judge_number nv ns Γ i p) _ out h in
      let A = then (judges nv us (suc lv) ns Γ >>= λ o. judge_block_end nv lv o.0 j o.1) _ out a.2 in
      let B = then (judges nv vs (suc lv) (drop (suc (sizes us)) ns) (carried Γ A.0.0) >>= λ o. judge_block_end nv lv o.0 k o.1) _ out A.2 in
      let M = then (need (agreeing A.0.1 B.0.1) (39, i)) _ out B.2 in
      let N = one_number I ns i p a.0 (named_before first_block ns behind left p.root (named_after second_block (itself ++ rest) p.root (named_next [] [] p.root rest))) a.1 in
      let R = sound_terms j us ihu lv ns behind Γ s A.0 w.0 left A.1 I in
      let S = sound_terms k vs ihv lv behind (itself ++ rest) (carried Γ A.0.0) s B.0 w.1 refl
      (subst (λ (m : Unfinished). (judges nv vs (suc lv) m (carried Γ A.0.0) >>= λ o. judge_block_end nv lv o.0 k o.1) ≡ ok B.0) (left_after_block us ns behind left) B.1)
      (later (named_before first_block ns behind left) (carrying A.0.0 I)) in
      subst (λ (r : Ran Outcome). Progress nv rest Γ out.0 out.1 lv r) (sym (run_choice i p s N.0 first second N.1))
      (go A.0.0 A.0.1 B.0.0 B.0.1 (finished (second_block ++ itself) (sym (append_assoc second_block itself rest)) R.0, R.1) (finished itself refl S.0, S.1)
      (needed _ _ _ M.1) M.2 (eqb N.0 0))
    where
      -- The terms that have not finished: the first block, the second, the choice itself, the rest.
      first_block : Unfinished
      first_block = finishing_all us ++ naming []

      second_block : Unfinished
      second_block = finishing_all vs ++ naming []

      itself : Unfinished
      itself = naming (p.root ∷ [])

      behind : Unfinished
      behind = second_block ++ (itself ++ rest)

      left : ns ≡ first_block ++ behind
      left = e ∙ append_assoc first_block (second_block ++ itself) rest ∙ ap (λ (m : Unfinished). first_block ++ m) (append_assoc second_block itself rest)

      first : Ran Outcome
      first = runs readings us j (entered s) >>= λ o. run_block_end j s.opened o

      second : Ran Outcome
      second = runs readings vs k (entered s) >>= λ o. run_block_end k s.opened o

      go : (Γ₁ : Environment) (o₁ : Option Ty) (Γ₂ : Environment) (o₂ : Option Ty) → (Progress nv rest Γ Γ₁ o₁ lv first) × (Lived Γ Γ₁)
          → (Progress nv rest (carried Γ Γ₁) Γ₂ o₂ lv second) × (Lived (carried Γ Γ₁) Γ₂) → agreeing o₁ o₂ ≡ true
          → ◌≡◌ {A = Result Refusal Out} (ok (joined Γ Γ₁ Γ₂, either o₁ o₂)) (ok out) → (c : Bool) → Progress nv rest Γ out.0 out.1 lv (pick c second first)
      go Γ₁ o₁ Γ₂ o₂ R S agree e c = subst (λ (q : Out). Progress nv rest Γ q.0 q.1 lv (pick c second first)) z (either_block c)
        where
          z : (joined Γ Γ₁ Γ₂, either o₁ o₂) ≡ out
          z = cc

          either_block : (c : Bool) → Progress nv rest Γ (joined Γ Γ₁ Γ₂) (either o₁ o₂) lv (pick c second first)
          either_block false = after_first Γ₂ o₂ R.0 R.1 agree
          either_block true = after_second Γ₁ o₁ S.0 S.1 agree

  sound_last : (t : Term) → Sound t → Sounds (last t)
  unfolding Sound Sounds LetsBelow judge run finishing
  sound_last t ih lv ns rest Γ s i out w e h I = ih lv ns rest Γ s out w e h I

  sound_more : (t : Term) (ts : Terms) → Sound t → Sounds ts → Sounds (more t ts)
  unfolding Sound Sounds LetsBelow judge run finishing
  sound_more t ts ih ihs lv ns rest Γ s i out w e h I =
      let a = then (judge nv t lv ns Γ) _ out h in
      let q = e ∙ append_assoc (finishing t) (finishing_all ts) rest in
      let R = ih lv ns (finishing_all ts ++ rest) Γ s a.0 w.0 q a.1 I in
      let F = forget a.0.1 i R.inv in
      let Q = ihs lv (finishing_all ts ++ rest) rest a.0.0 F.0 i out w.1 refl (subst (λ (m : Unfinished). judges nv ts lv m a.0.0 ≡ ok out) (left_after t ns (finishing_all ts ++ rest) q) a.2) F.2 in
      record {
        s = Q.s;
        v = Q.v;
        ran = after (run readings t s) _ (R.s, R.v) (ok (Q.s, Q.v)) R.ran (after (drop_value i R.s R.v) _ F.0 (ok (Q.s, Q.v)) F.1 Q.ran);
        inv = Q.inv;
        keep = λ x q e l. let b = Q.keep x q e l in let c = R.keep x b.0 b.1 (omega (arith, b.2)) in (c.0, c.1, c.2 ∙ b.2);
        stay = λ x e. Q.stay x (R.stay x e);
        lives = λ x k e. let a = R.lives x k e in let b = Q.lives x a.0 a.1 in (b.0, b.1, b.2 ∙ a.2, b.3 ∙ a.3);
      }

  -- Below and sum: f is what the run makes of the two numbers.
  sound_pair : (t : Term) (f : ℕ → ℕ → ℕ) (i : ℕ) (p q : Place) → finishing t ≡ naming (p.root ∷ q.root ∷ []) → ((s : State) → run readings t s ≡ run_pair f s i p q)
      → ((lv : ℕ) (ns : Unfinished) (Γ : Environment) → judge nv t lv ns Γ ≡ judge_below nv ns Γ i p q) → Sound t
  unfolding Sound judge_below
  sound_pair t f i p q l e g lv ns rest Γ s out w d h I =
      let k : ns ≡ naming (p.root ∷ q.root ∷ []) ++ rest = d ∙ ap (λ (m : Unfinished). m ++ rest) l in
      let a = then (judge_number nv ns Γ i p) _ out (sym (g lv ns Γ) ∙ h) in
      let b = then (judge_number nv ns Γ i q) _ out a.2 in
      let z : (Γ, some number_ty) ≡ out = let k = b.2 in cc in
      finished (finishing t) d (subst (λ (k : Out). Progress nv ns Γ k.0 k.1 lv (run readings t s)) z (subst (Progress nv ns Γ Γ (some number_ty) lv) (sym (e s))
      (case_pair I ns f i p q a.0 b.0 (named_before [] ns _ k p.root (named_next [] (q.root ∷ []) p.root rest)) (named_before [] ns _ k q.root (named_next (p.root ∷ []) [] q.root rest)) a.1 b.1)))

  sound_number : (t : Term) (n : ℕ) → ((s : State) → run readings t s ≡ ok (s, num n))
      → ((lv : ℕ) (ns : Unfinished) (Γ : Environment) → judge nv t lv ns Γ ≡ ok (Γ, some number_ty)) → Sound t
  unfolding Sound
  sound_number t n e f lv ns rest Γ s out w q h I =
      let z : (Γ, some number_ty) ≡ out = let k : ◌≡◌ {A = Result Refusal Out} (ok (Γ, some number_ty)) (ok out) = sym (f lv ns Γ) ∙ h in cc in
      finished (finishing t) q (subst (λ (k : Out). Progress nv ns Γ k.0 k.1 lv (run readings t s)) z (case_number I n (run readings t s) (e s)))

  -- A term that names one place.
  sound_place : (t : Term) (p : Place) → finishing t ≡ naming (p.root ∷ [])
      → ((lv : ℕ) (ns : Unfinished) (Γ : Environment) (s : State) (out : Out) (I : Invariant nv ns Γ none lv s empty) → Settled ns I → named_later ns p.root ≡ true → judge nv t lv ns Γ ≡ ok out
      → Progress nv ns Γ out.0 out.1 lv (run readings t s)) → Sound t
  unfolding Sound
  sound_place t p f case lv ns rest Γ s out w e h I =
      finished (finishing t) e (case lv ns Γ s out (settle ns I (in_use_named nv ns Γ)) (is_settled ns I (in_use_named nv ns Γ)) (named_before [] ns _ (e ∙ ap (λ (m : Unfinished). m ++ rest) f) p.root (named_next [] [] p.root rest)) h)

  mutual
    unfolding Sound judge run finishing

    pub sound : (t : Term) → Sound t
    sound (number i n) = sound_number (number i n) n (λ s. refl) (λ lv ns Γ. refl)
    sound (reading i n) = sound_number (reading i n) (readings n) (λ s. refl) (λ lv ns Γ. refl)
    sound (copy i p) = sound_place (copy i p) p refl (λ lv ns Γ s out I S nm h. case_copy I ns i p out nm h)
    sound (move i p) = sound_place (move i p) p refl (λ lv ns Γ s out I S nm h. case_move ns I S i p out nm h)
    sound (borrow_shared i p) = sound_place (borrow_shared i p) p refl (λ lv ns Γ s out I S nm h. case_shared I ns S i p out nm h)
    sound (borrow_exclusive i p) = sound_place (borrow_exclusive i p) p refl (λ lv ns Γ s out I S nm h. case_exclusive I ns S i p out nm h)
    sound (box i t) = sound_box i t (sound t)
    sound (declare i x t) = sound_let i x t (sound t)
    sound (assign i p t) = sound_assign i p t (sound t)
    sound (below i p q) = sound_pair (below i p q) compared i p q refl (λ s. refl) (λ lv ns Γ. refl)
    sound (sum i p q) = sound_pair (sum i p q) held_sum i p q refl (λ s. refl) (λ lv ns Γ. refl)
    sound (block i ts) = sound_block i ts (sounds ts)
    sound (choice i p j us k vs) = sound_choice i p j us k vs (sounds us) (sounds vs)

    pub sounds : (ts : Terms) → Sounds ts
    sounds (last t) = sound_last t (sound t)
    sounds (more t ts) = sound_more t ts (sound t) (sounds ts)
