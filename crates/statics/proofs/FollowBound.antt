-- The bound of following never decides anything: in a neat state any bound greater than the number of variables gives the same.
use Prim.Native.Nat.{ℕ, zero, suc, ◌+◌, ◌-◌, ◌≤◌, ◌<◌}
use native.Mathlib.Omega.{arith}
use mathlib.Core.Path.{◌≡◌, refl, sym, ap, ◌∙◌, subst}
use mathlib.Core.Logic.{inl, inr}
use mathlib.Core.Bool.{Bool, true, false}
use mathlib.Core.Option.{Option, none, some}
use mathlib.Core.List.{List, [], ◌∷◌}
use lib.ListN.{length, drop}
use Rattle.syntax.specs.Result.{pick}
use Rattle.syntax.specs.Script.{Place, Term}
use Rattle.syntax.specs.Limits.{Limits}
use Rattle.syntax.specs.Within.{Within}
use Rattle.statics.specs.Links.{Link}
use Rattle.statics.specs.Places.{member}
use Rattle.statics.specs.Environment.{Variable, live, Environment, Ty}
use Rattle.statics.specs.Follow.{onward, Met, on_met, meet_all, follow}
use Rattle.statics.specs.Uses.{finishing}
use Rattle.statics.specs.Judge.{nothing_taken}
use Rattle.statics.specs.Neat.{Among, Distinct, Neat}
use Rattle.statics.specs.Met.{Meets}
use Rattle.statics.proofs.Answers.{none≢some}
use Rattle.statics.proofs.SetLaws.{member_not}
use Rattle.statics.proofs.Pigeon.{pigeon}
use Rattle.statics.proofs.NeatPaths.{Lies, one_each, lies_on}
use Rattle.statics.proofs.NeatJudged.{all_neat}

-- ---- an answer stays with a greater bound

module _ (Γ : Environment) where
  more_all : (go go' : Place → List Place → Met) → ((q : Place) (s ps : List Place) → go q s ≡ some ps → go' q s ≡ some ps)
      → (l seen ps : List Place) → meet_all l seen go ≡ some ps → meet_all l seen go' ≡ some ps
  unfolding meet_all on_met
  more_all go go' ih [] seen ps h = h
  more_all go go' ih (p ∷ l) seen ps h = first (λ s k. more_all go go' ih l s ps k) (go p seen) refl h
    where
      first : ((s : List Place) → meet_all l s go ≡ some ps → meet_all l s go' ≡ some ps) → (m : Met) → go p seen ≡ m → on_met m (λ s. meet_all l s go) ≡ some ps
          → on_met (go' p seen) (λ s. meet_all l s go') ≡ some ps
      first rest none e k = absurd (none≢some k)
      first rest (some s) e k = ap (λ (y : Met). on_met y (λ s. meet_all l s go')) (ih p seen s e) ∙ rest s k

  one_more : (n : ℕ) (p : Place) (seen ps : List Place) → follow n Γ p seen ≡ some ps → follow (suc n) Γ p seen ≡ some ps
  unfolding follow
  one_more zero p seen ps h = absurd (none≢some h)
  one_more (suc n) p seen ps h = go (λ q s k e. one_more n q s k e) (member p seen) h
    where
      go : ((q : Place) (s k : List Place) → follow n Γ q s ≡ some k → follow (suc n) Γ q s ≡ some k) → (b : Bool)
          → pick b (some seen) (meet_all (onward (Γ p.root) p.follows) (p ∷ seen) (λ q s. follow n Γ q s)) ≡ some ps
          → pick b (some seen) (meet_all (onward (Γ p.root) p.follows) (p ∷ seen) (λ q s. follow (suc n) Γ q s)) ≡ some ps
      go ih true e = e
      go ih false e = more_all (λ q s. follow n Γ q s) (λ q s. follow (suc n) Γ q s) ih (onward (Γ p.root) p.follows) (p ∷ seen) ps e

  some_more : (j n : ℕ) (p : Place) (seen ps : List Place) → follow n Γ p seen ≡ some ps → follow (j + n) Γ p seen ≡ some ps
  some_more zero n p seen ps h = subst (λ (k : ℕ). follow k Γ p seen ≡ some ps) (omega arith) h
  some_more (suc j) n p seen ps h = subst (λ (k : ℕ). follow k Γ p seen ≡ some ps) (omega arith) (one_more (j + n) p seen ps (some_more j n p seen ps h))

-- ---- places that are all different

-- The root of the i-th.
root_at : List Place → ℕ → ℕ
root_at [] i = 0
root_at (p ∷ ps) zero = p.root
root_at (p ∷ ps) (suc i) = root_at ps i

root_in : (ps : List Place) (i : ℕ) → i < length ps → (q : Place) × (Among q ps) × (root_at ps i ≡ q.root)
unfolding root_at
root_in [] i h = absurd (omega arith)
root_in (p ∷ ps) zero h = (p, inl refl, refl)
root_in (p ∷ ps) (suc i) h = let k = root_in ps i (omega arith) in (k.0, inr k.1, k.2)

module _ {nv : ℕ} {Γ : Environment} {level : ℕ} (N : Neat nv Γ level) (m : List Link) where
  root_once : (ps : List Place) → Distinct ps → ((q : Place) → Among q ps → Lies Γ m q) → (i j : ℕ) → i < length ps → j < length ps → root_at ps i ≡ root_at ps j → i ≡ j
  unfolding root_at
  root_once [] d g i j h k e = absurd (omega arith)
  root_once (p ∷ ps) d g zero zero h k e = refl
  root_once (p ∷ ps) d g zero (suc j) h k e =
      let a = root_in ps j (omega arith) in
      absurd (d.0 (subst (λ (y : Place). Among y ps) (sym (one_each p a.0 (g p (inl refl)) (g a.0 (inr a.1)) (e ∙ a.2))) a.1))
  root_once (p ∷ ps) d g (suc i) zero h k e =
      let a = root_in ps i (omega arith) in
      absurd (d.0 (subst (λ (y : Place). Among y ps) (sym (one_each p a.0 (g p (inl refl)) (g a.0 (inr a.1)) (sym e ∙ a.2))) a.1))
  root_once (p ∷ ps) d g (suc i) (suc j) h k e = ap suc (root_once ps d.1 (λ q l. g q (inr l)) i j (omega arith) (omega arith) e)

  -- No more different places with the same links left than there are variables.
  few : (ps : List Place) → Distinct ps → ((q : Place) → Among q ps → Lies Γ m q) → length ps ≤ nv
  few ps d g = pigeon nv (length ps) (root_at ps) (λ i h. let a = root_in ps i h in let L = g a.0 a.1 in subst (λ (y : ℕ). y < nv) (sym a.2) (N.low a.0.root L.variable L.is)) (root_once ps d g)

  -- ---- what has been met

  pub record Stock (ps : List Place) : Type 0 where
    pub apart : Distinct ps
    pub good : (q : Place) → Among q ps → Lies Γ m q

  abbrev Goes : (Place → List Place → Met) → Place → List Place → Type 0
  Goes go p seen = (ps : List Place) × (go p seen ≡ some ps) × (Stock ps) × (length seen ≤ length ps)

  all_go : (n : ℕ) (go : Place → List Place → Met) → ((p : Place) (s : List Place) → Lies Γ m p → Stock s → n ≤ length s → Goes go p s)
      → (l s : List Place) → ((q : Place) → Among q l → Lies Γ m q) → Stock s → n ≤ length s → (ps : List Place) × (meet_all l s go ≡ some ps) × (Stock ps) × (length s ≤ length ps)
  unfolding meet_all on_met
  all_go n go ih [] s jl K h = (s, refl, K, omega arith)
  all_go n go ih (p ∷ l) s jl K h =
      let A = ih p s (jl p (inl refl)) K h in
      let B = all_go n go ih l A.0 (λ q i. jl q (inr i)) A.2 (omega (arith, A.3)) in
      (B.0, ap (λ (y : Met). on_met y (λ s. meet_all l s go)) A.1 ∙ B.1, B.2, omega (arith, A.3, B.3))

  -- A bound that exceeds the variables not yet met does not run out.
  goes : (f : ℕ) (p : Place) (seen : List Place) → Lies Γ m p → Stock seen → suc nv ≤ f + length seen → Goes (λ q s. follow f Γ q s) p seen
  unfolding follow
  goes zero p seen L K h = absurd (let z = few seen K.apart K.good in omega arith)
  goes (suc f) p seen L K h = go (λ q s l k i. goes f q s l k i) (member p seen) refl
    where
      go : ((q : Place) (s : List Place) → Lies Γ m q → Stock s → suc nv ≤ f + length s → (ps : List Place) × (follow f Γ q s ≡ some ps) × (Stock ps) × (length s ≤ length ps)) → (b : Bool) → member p seen ≡ b
          → (ps : List Place) × (pick b (some seen) (meet_all (onward (Γ p.root) p.follows) (p ∷ seen) (λ q s. follow f Γ q s)) ≡ some ps) × (Stock ps) × (length seen ≤ length ps)
      go ih true e = (seen, refl, K, omega arith)
      go ih false e =
          let K' : Stock (p ∷ seen) = record { apart = (member_not p seen e, K.apart); good = λ q i. elim i [ inl j ↦ subst (λ (y : Place). Lies Γ m y) (sym j) L | inr j ↦ K.good q j ] } in
          let A = all_go (suc (length seen)) (λ q s. follow f Γ q s) (λ q s l k i. ih q s l k (omega arith)) (onward (Γ p.root) p.follows) (p ∷ seen) (λ n j. lies_on N m p n L j) K' (omega arith) in
          (A.0, A.1, A.2, omega (arith, A.3))

module _ {nv : ℕ} {Γ : Environment} {level : ℕ} (N : Neat nv Γ level) (p : Place) (v : Variable) (is : Γ p.root ≡ live v) (long : p.follows ≤ length v.chain) where
  starts : Lies Γ (drop p.follows v.chain) p
  starts = record { variable = v; is = is; long = long; rest = refl }

  -- A place in scope and long enough is followed to its ends, and what is met are different places with the same links left.
  pub all_met : (ps : List Place) × (follow (suc nv) Γ p [] ≡ some ps) × (Stock N (drop p.follows v.chain) ps)
  all_met = let G = goes N (drop p.follows v.chain) (suc nv) p [] starts (record { apart = tt; good = λ q i. absurd i }) (omega arith) in (G.0, G.1, G.2)

  -- With any bound greater than the number of variables: the same.
  pub never_short : (n : ℕ) → nv < n → follow n Γ p [] ≡ follow (suc nv) Γ p []
  never_short n h = let A = all_met in subst (λ (k : ℕ). follow k Γ p [] ≡ follow (suc nv) Γ p []) (omega arith) (some_more Γ (n - suc nv) (suc nv) p [] A.0 A.1 ∙ sym A.1)

-- So in every state that judging a script within the limits meets.
pub bound_decides_nothing : (l : Limits) (t : Term) → Within l t → (Δ : Environment) (level : ℕ) (o : Option Ty)
    → Meets l.variables t 0 (finishing t) (nothing_taken l.variables) Δ level o
    → (p : Place) (v : Variable) → Δ p.root ≡ live v → p.follows ≤ length v.chain
    → ((n : ℕ) → l.variables < n → follow n Δ p [] ≡ follow (suc l.variables) Δ p []) × (ps : List Place) × (follow (suc l.variables) Δ p [] ≡ some ps)
bound_decides_nothing l t W Δ level o M p v is long =
    let N = (all_neat l t W Δ level o M).0 in
    let A = all_met N p v is long in
    (never_short N p v is long, A.0, A.1)
