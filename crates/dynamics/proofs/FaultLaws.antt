-- A fault that a run meets anywhere on its way is the run's own result, and a run's fault is met somewhere on its way.
use Prim.Native.Nat.{ℕ}
use mathlib.Core.Path.{◌≡◌, refl, sym, ap, ◌∙◌}
use mathlib.Core.Bool.{Bool, true, false}
use mathlib.Core.List.{List, [], ◌∷◌}
use lib.Dec.{eqb}
use borrow.Author.Tests.{eqb-true, eqb-false, ne_eqb}
use Rattle.syntax.specs.Result.{ok, err, pick, ◌>>=◌}
use Rattle.syntax.specs.Script.{Place, Term, number, reading, copy, move, borrow_shared, borrow_exclusive, box, declare, assign, below, block, choice, sum, Terms, last, more}
use Rattle.dynamics.specs.Store.{Store, State, Fault, Ran}
use Rattle.dynamics.specs.Drop.{close_all}
use Rattle.dynamics.specs.Run.{run_number, run_assign, run_box, run_block_end, entered, begun, run, runs, run_script}
use Rattle.dynamics.specs.Faults.{ClosingMeets, at_first, at_later, TermMeets, at_copy, at_move, at_shared, at_exclusive, at_below, at_sum, in_box, in_let, at_let, in_assign, at_place, at_old, in_block, at_closing, at_choice, in_first_block, in_second_block, TermsMeet, in_last, in_first, at_drop, in_rest, RunMeets, on_the_way, at_answer}
use Rattle.syntax.proofs.Answers.{after, stop, err_ok}

-- ---- met on the way: the run's own result

closing_faults : (i : ℕ) {s : State} {xs : List ℕ} {f : Fault} → ClosingMeets i s xs f → close_all i s xs ≡ err f
unfolding close_all
closing_faults i (at_first e) = stop _ _ _ e
closing_faults i (at_later e m) = after _ _ _ _ e (closing_faults i m)

module _ (readings : ℕ → ℕ) where
  mutual
    unfolding run runs run_assign run_block_end

    term_faults : {t : Term} {s : State} {f : Fault} → TermMeets readings t s f → run readings t s ≡ err f
    term_faults (at_copy e) = e
    term_faults (at_move e) = e
    term_faults (at_shared e) = e
    term_faults (at_exclusive e) = e
    term_faults (at_below e) = e
    term_faults (at_sum e) = e
    term_faults (in_box m) = stop _ _ _ (term_faults m)
    term_faults (in_let m) = stop _ _ _ (term_faults m)
    term_faults (at_let o r e) = after _ _ _ _ r e
    term_faults (in_assign m) = stop _ _ _ (term_faults m)
    term_faults (at_place o r e) = after _ _ _ _ r (stop _ _ _ e)
    term_faults (at_old o l r q e) = after _ _ _ _ r (after _ _ _ _ q (stop _ _ _ e))
    term_faults (in_block m) = stop _ _ _ (terms_fault m)
    term_faults (at_closing o r m) = after _ _ _ _ r (stop _ _ _ (closing_faults _ m))
    term_faults (at_choice e) = stop _ _ _ e
    term_faults (in_first_block n r z m) = after _ _ _ _ r (rw (ne_eqb n 0 z) (term_faults m))
    term_faults (in_second_block r m) = after _ _ _ _ r (term_faults m)

    terms_fault : {i : ℕ} {ts : Terms} {s : State} {f : Fault} → TermsMeet readings i ts s f → runs readings ts i s ≡ err f
    terms_fault (in_last m) = term_faults m
    terms_fault (in_first m) = stop _ _ _ (term_faults m)
    terms_fault (at_drop o r e) = after _ _ _ _ r (stop _ _ _ e)
    terms_fault (in_rest o r q m) = after _ _ _ _ r (after _ _ _ _ q (terms_fault m))

  pub met_faults : {t : Term} {earlier : Store} {f : Fault} → RunMeets readings t earlier f → run_script readings t earlier ≡ err f
  unfolding run_script
  met_faults (on_the_way m) = stop _ _ _ (term_faults m)
  met_faults (at_answer o r e) = after _ _ _ _ r (stop _ _ _ e)

-- ---- the run's fault: met on the way

-- A chain that faults does so at its first step, or after it.
either : {A B X : Type 0} (m : Ran A) (k : A → Ran B) (f : Fault) → (m >>= k) ≡ err f → (m ≡ err f → X) → ((a : A) → m ≡ ok a → k a ≡ err f → X) → X
unfolding ◌>>=◌
either (ok a) k f e x y = y a refl e
either (err g) k f e x y = let z : g ≡ f = cc in x (ap err z)

closing_met : (i : ℕ) (s : State) (xs : List ℕ) (f : Fault) → close_all i s xs ≡ err f → ClosingMeets i s xs f
unfolding close_all
closing_met i s [] f e = err_ok (sym e)
closing_met i s (x ∷ xs) f e = either _ _ f e at_first (λ s' q r. at_later q (closing_met i s' xs f r))

module _ (readings : ℕ → ℕ) where
  Met : Terms → Type 0
  Met ts = (i : ℕ) (s : State) (f : Fault) → runs readings ts i s ≡ err f → TermsMeet readings i ts s f

  -- A block that runs as a term, or as one of a choice's two.
  block_met : (ts : Terms) → Met ts → (i : ℕ) (s : State) (f : Fault) → (runs readings ts i (entered s) >>= λ o. run_block_end i s.opened o) ≡ err f → TermMeets readings (block i ts) s f
  unfolding Met run_block_end
  block_met ts ih i s f e =
      either _ _ f e (λ q. in_block (ih i (entered s) f q)) (λ o r q.
      either _ _ f q (λ w. at_closing o r (closing_met i o.0 o.0.opened f w)) (λ s' w x. err_ok (sym x)))

  choice_met : (i : ℕ) (p : Place) (j : ℕ) (us : Terms) (k : ℕ) (vs : Terms) → Met us → Met vs → (s : State) (f : Fault) (n : ℕ) → run_number s i p ≡ ok n → (b : Bool) → eqb n 0 ≡ b
      → pick b (runs readings vs k (entered s) >>= λ o. run_block_end k s.opened o) (runs readings us j (entered s) >>= λ o. run_block_end j s.opened o) ≡ err f
      → TermMeets readings (choice i p j us k vs) s f
  choice_met i p j us k vs mu mv s f n r true z e = in_second_block (r ∙ ap ok (eqb-true n 0 z)) (block_met vs mv k s f e)
  choice_met i p j us k vs mu mv s f n r false z e = in_first_block n r (eqb-false n 0 z) (block_met us mu j s f e)

  mutual
    unfolding run runs run_assign run_box Met

    term_met : (t : Term) (s : State) (f : Fault) → run readings t s ≡ err f → TermMeets readings t s f
    term_met (number i n) s f e = err_ok (sym e)
    term_met (reading i n) s f e = err_ok (sym e)
    term_met (copy i p) s f e = at_copy e
    term_met (move i p) s f e = at_move e
    term_met (borrow_shared i p) s f e = at_shared e
    term_met (borrow_exclusive i p) s f e = at_exclusive e
    term_met (box i t) s f e = either _ _ f e (λ q. in_box (term_met t s f q)) (λ o r q. err_ok (sym q))
    term_met (declare i x t) s f e = either _ _ f e (λ q. in_let (term_met t s f q)) (λ o r q. at_let o r q)
    term_met (assign i p t) s f e =
        either _ _ f e (λ q. in_assign (term_met t s f q)) (λ o r q.
        either _ _ f q (λ w. at_place o r w) (λ l w x.
        either _ _ f x (λ y. at_old o l r w y) (λ s' y z. err_ok (sym z))))
    term_met (below i p q) s f e = at_below e
    term_met (sum i p q) s f e = at_sum e
    term_met (block i ts) s f e = block_met ts (λ i s f e. terms_met ts i s f e) i s f e
    term_met (choice i p j us k vs) s f e =
        either _ _ f e at_choice (λ n r q. choice_met i p j us k vs (λ i s f e. terms_met us i s f e) (λ i s f e. terms_met vs i s f e) s f n r (eqb n 0) refl q)

    terms_met : (ts : Terms) (i : ℕ) (s : State) (f : Fault) → runs readings ts i s ≡ err f → TermsMeet readings i ts s f
    terms_met (last t) i s f e = in_last (term_met t s f e)
    terms_met (more t ts) i s f e =
        either _ _ f e (λ q. in_first (term_met t s f q)) (λ o r q.
        either _ _ f q (λ w. at_drop o r w) (λ s' w x. in_rest o r w (terms_met ts i s' f x)))

  pub faults_met : (t : Term) (earlier : Store) (f : Fault) → run_script readings t earlier ≡ err f → RunMeets readings t earlier f
  unfolding run_script
  faults_met t earlier f e =
      either _ _ f e (λ q. on_the_way (term_met t (begun earlier) f q)) (λ o r q.
      either _ _ f q (λ w. at_answer o r w) (λ n w x. err_ok (sym x)))
