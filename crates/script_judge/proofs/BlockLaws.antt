-- A turn of the block judge's loop: one term of what is left.
use Prim.Native.Nat.{ℕ, zero, suc, ◌<◌, ◌≤◌}
use native.Mathlib.Omega.{arith}
use mathlib.Core.Path.{◌≡◌, refl, sym, ◌∙◌}
use mathlib.Core.Option.{Option, none, some}
use mathlib.Core.List.{List, ◌++◌, append_assoc}
use Rattle.syntax.specs.Result.{ok, err, Refusal, ◌>>=◌}
use Rattle.syntax.specs.Script.{Term, Terms, last, more}
use Rattle.syntax.specs.RowTrees.{RowTree, IsTree, around, before, several_at, IsRest, tree_at}
use Rattle.statics.specs.Environment.{Environment, Ty}
use Rattle.statics.specs.Uses.{Unfinished, finishing, finishing_all}
use Rattle.statics.specs.Rules.{Out}
use Rattle.statics.specs.Judge.{judge, judges}
use Rattle.term_judge.specs.JudgeRows.{judged_at, judge_at, judges_at, rest_at}
use Rattle.statics.proofs.Finishing.{left_after}
use Rattle.statics.proofs.SameLater.{judged_alike}
use Rattle.term_judge.proofs.TreeNames.{tree_names}
use Rattle.term_judge.proofs.LaterLaws.{FollowsAll}
use Rattle.term_judge.proofs.JudgeLaws.{refused_is, fine_is}

last_judged : (nv level : ℕ) (later : ℕ → Unfinished) (Γ : Environment) (d : RowTree Term) → judges_at nv (around last d) level later Γ ≡ judge_at nv d level later Γ
unfolding judged_at judge finishing
last_judged nv level later Γ none = refl
last_judged nv level later Γ (some r) = refl

-- One term as all that is left.
pub one_judged : (nv : ℕ) (f : ℕ → RowTree Term) (level : ℕ) (later : ℕ → Unfinished) (i : ℕ) (o : Option Ty) (Γ : Environment) → rest_at nv f level later 1 i o Γ ≡ judge_at nv (f i) level later Γ
unfolding rest_at several_at
one_judged nv f level later i o Γ = last_judged nv level later Γ (f i)

module _ (nv level : ℕ) (later : ℕ → Unfinished) where
  -- The first of several, which ends before row j, then the others.
  more_judged : (rest : ℕ → RowTree Terms) → FollowsAll nv later rest → (t : Term) (j : ℕ) (ts : Terms) (k : ℕ) → rest j ≡ some (ts, k) → (Γ : Environment)
      → judges nv (more t ts) level (finishing_all (more t ts) ++ later k) Γ ≡ (judge nv t level (finishing t ++ later j) Γ >>= λ o. judges nv ts level (finishing_all ts ++ later k) o.0)
  unfolding judge finishing
  more_judged rest F t j ts k e Γ =
      let left = finishing_all ts ++ later k in
      rw (append_assoc (finishing t) (finishing_all ts) (later k), left_after t (finishing t ++ left) left refl, judged_alike nv t level (later j) left Γ (F j ts k e))

  -- The rest after it.
  module _ (Γ : Environment) (rest : ℕ → RowTree Terms) (F : FollowsAll nv later rest) where
    more_refused : (d : RowTree Term) → IsTree (before d rest) → (x : Refusal) → err x ≡ judge_at nv d level later Γ → err x ≡ judges_at nv (before d rest) level later Γ
    unfolding judged_at ◌>>=◌
    more_refused none h x e = absurd h
    more_refused (some t) h x e = go (rest t.1) refl h (refused_is (judge nv t.0 level (finishing t.0 ++ later t.1) Γ) t.1 x e)
      where
        go : (ds : RowTree Terms) → rest t.1 ≡ ds → IsTree (around (more t.0) ds) → judge nv t.0 level (finishing t.0 ++ later t.1) Γ ≡ err x → err x ≡ judges_at nv (around (more t.0) ds) level later Γ
        go none w h z = absurd h
        go (some ts) w h z = rw (more_judged rest F t.0 t.1 ts.0 ts.1 w Γ, z)

    more_fine : (d : RowTree Term) → IsTree (before d rest) → (o : Out × ℕ) → ok o ≡ judge_at nv d level later Γ → IsTree (rest o.1) × (judges_at nv (rest o.1) level later o.0.0 ≡ judges_at nv (before d rest) level later Γ)
    unfolding judged_at ◌>>=◌
    more_fine none h o e = absurd h
    more_fine (some t) h o e = let z = fine_is (judge nv t.0 level (finishing t.0 ++ later t.1) Γ) t.1 o e in rw z.1 (go (rest t.1) refl h z.0)
      where
        go : (ds : RowTree Terms) → rest t.1 ≡ ds → IsTree (around (more t.0) ds) → judge nv t.0 level (finishing t.0 ++ later t.1) Γ ≡ ok o.0 → IsTree ds × (judges_at nv ds level later o.0.0 ≡ judges_at nv (around (more t.0) ds) level later Γ)
        go none w h z = absurd h
        go (some ts) w h z = (tt, rw (more_judged rest F t.0 t.1 ts.0 ts.1 w Γ, z))

module _ (nv : ℕ) (f : ℕ → RowTree Term) (level : ℕ) (later : ℕ → Unfinished) (F : (n : ℕ) → FollowsAll nv later (several_at f n)) (n i : ℕ) (some : 0 < n) (left : IsRest f n i) (Γ : Environment) (v : Option Ty) where
  pub rest_refused : (x : Refusal) → err x ≡ judge_at nv (f i) level later Γ → err x ≡ rest_at nv f level later n i v Γ
  unfolding rest_at several_at
  rest_refused x e = go n some left
    where
      go : (n : ℕ) → 0 < n → IsRest f n i → err x ≡ rest_at nv f level later n i v Γ
      go zero b h = absurd (omega arith)
      go (suc zero) b h = e ∙ sym (last_judged nv level later Γ (f i))
      go (suc (suc n)) b h = more_refused nv level later Γ (several_at f n) (F n) (f i) h x e

  pub rest_fine : (o : Out × ℕ) → ok o ≡ judge_at nv (f i) level later Γ → (m : ℕ) → suc m ≡ n → IsRest f m o.1 × (rest_at nv f level later m o.1 o.0.1 o.0.0 ≡ rest_at nv f level later n i v Γ)
  unfolding rest_at several_at
  rest_fine o e m em = rw (← em) (go m (rw (← em) at left))
    where
      go : (m : ℕ) → IsRest f (suc m) i → IsRest f m o.1 × (rest_at nv f level later m o.1 o.0.1 o.0.0 ≡ rest_at nv f level later (suc m) i v Γ)
      go zero h = (tt, e ∙ sym (last_judged nv level later Γ (f i)))
      go (suc n) h = more_fine nv level later Γ (several_at f n) (F n) (f i) h o e

-- After a term that is fine comes a later row.
pub next_after : (nv l : ℕ) (rows : List ℕ) (i : ℕ) → IsTree (tree_at nv l rows i) → (level : ℕ) (later : ℕ → Unfinished) (Γ : Environment) (o : Out × ℕ) → ok o ≡ judge_at nv (tree_at nv l rows i) level later Γ → i < o.1
unfolding judged_at
next_after nv l rows i good level later Γ o e = go (tree_at nv l rows i) refl good e
  where
    go : (d : RowTree Term) → tree_at nv l rows i ≡ d → IsTree d → ok o ≡ judge_at nv d level later Γ → i < o.1
    go none w h e = absurd h
    go (some t) w h e =
        let z = (fine_is (judge nv t.0 level (finishing t.0 ++ later t.1) Γ) t.1 o e).1 in
        omega (arith, (tree_names nv l rows i t.0 t.1 w).0)

pub rest_none : (nv : ℕ) (f : ℕ → RowTree Term) (level : ℕ) (later : ℕ → Unfinished) (n : ℕ) (o : Out × ℕ) → n ≤ 0 → ok o ≡ rest_at nv f level later n o.1 o.0.1 o.0.0
unfolding rest_at
rest_none nv f level later zero o h = refl
rest_none nv f level later (suc n) o h = absurd (omega arith)
