-- The two blocks of a choice: the value of either, and what is kept of the variables.
use Prim.Native.Nat.{ℕ, suc, ◌+◌, ◌<◌}
use native.Mathlib.Omega.{arith}
use native.Mathlib.Decide.{dec_lt}
use mathlib.Core.Path.{◌≡◌, refl, sym, ap, ◌∙◌, subst}
use mathlib.Core.Bool.{true}
use mathlib.Core.List.{List}
use lib.Seq.{get_or-set_same, get_or-set_other}
use lib.ListN.{length, set}
use borrow.Author.Tests.{eq-eqb}
use Rattle.syntax.specs.Result.{need, ◌>>=◌, pick}
use Rattle.variables.specs.declared.table.Row.{Row}
use Rattle.variables.specs.declared.roots.Roots.{Roots}
use Rattle.std.specs.Prelude as prelude
use Rattle.variables.specs.declared.verdicts.ValueType.{ValueType}
use Rattle.statics.specs.Places.{unite}
use Rattle.statics.specs.Environment.{Borrow, places, borrow_end, Variable, live}
use Rattle.statics.specs.Choice.{agreeing}
use Rattle.statics.specs.Neat.{Among, Neat}
use Rattle.statics.specs.Roots.{lengths, place_at, left}
use Rattle.variables.specs.Chains.{chain_of}
use Rattle.variables.specs.Masks.{has}
use Rattle.variables.specs.Table.{roots_at, long_at, end_in, environment_of, note_at, TableFor}
use Rattle.variables.specs.Verdicts.{Verdict, type_of, Answers, value_of, Joins}
use Rattle.choices.specs.declared.choice.KeptState.{KeptState}
use Rattle.choices.specs.Kept.{kept_at, kept_now, KeptAs, KeepsAll}
use Rattle.variables.proofs.EqualChains.{same_links_law}
use Rattle.variables.proofs.EntryLaws.{live_status}
use Rattle.variables.proofs.EndRoots.{end_lengths, live_length, end_united}

-- ---- the value of a choice

pub joins : (first second : prelude.Option ValueType) (t u : ValueType) (s : Roots) (r : Verdict) → first ≡ prelude.Some t → second ≡ prelude.Some u → t.links ≡ u.links
    → ((x : ℕ) → has s x ≡ pick (has t.roots x) true (has u.roots x))
    → Answers r (value_of (λ env. type_of (chain_of t.links) (end_in env (chain_of t.links) s))) → Joins first second r
unfolding agreeing need ◌>>=◌
joins first second t u s r e f l h A env i =
    let b : end_in env (chain_of t.links) s ≡ borrow_end (chain_of t.links) (unite (places (end_in env (chain_of t.links) t.roots)) (places (end_in env (chain_of u.links) u.roots))) =
    end_united (chain_of t.links) (long_at env) (left (chain_of t.links)) t.roots u.roots s h
    ∙ ap (λ (k : ℕ). borrow_end (chain_of t.links) (unite (places (end_in env (chain_of t.links) t.roots)) (places (end_in env (chain_of k) u.roots)))) l in
    rw (A env i, e, f, same_links_law t.links u.links, eq-eqb t.links u.links l, b) refl

-- ---- the table's state kept

-- What the table has of x is its state.
pub kept_here : (env : List Row) (x : ℕ) (k : KeptState) → k ≡ kept_now env x → KeptAs k env x
kept_here env x k e v q =
    let z = (live_status env x v q).1 in
    (ap (λ (j : KeptState). j.moved_from) e ∙ ap (λ (u : Variable). u.moved_from) (sym z), ap (λ (j : KeptState). end_in env v.chain j.roots) e ∙ ap (λ (u : Variable). end_in env u.chain (roots_at env x)) z ∙ ap (λ (u : Variable). u.borrow) (sym z))

-- What is put at x, in a list that has an x.
pub put_here : (kept : List KeptState) (x : ℕ) (k : KeptState) → x < length kept → kept_at (set kept x k) x ≡ k
put_here kept x k l = get_or-set_same kept x k _ l

pub put_there : (kept : List KeptState) (x : ℕ) (k : KeptState) (y : ℕ) → (y ≡ x → ⊥) → kept_at (set kept x k) y ≡ kept_at kept y
put_there kept x k y n = get_or-set_other kept x y k _ n

pub keep_next : (kept : List KeptState) (env : List Row) (x : ℕ) (k : KeptState) → x < length kept → k ≡ kept_now env x
    → ((y : ℕ) → y < x → KeptAs (kept_at kept y) env y)
    → (y : ℕ) → y < x + 1 → KeptAs (kept_at (set kept x k) y) env y
keep_next kept env x k inside e done y l = go (dec_lt y x)
  where
    go : Dec (y < x) → KeptAs (kept_at (set kept x k) y) env y
    go (yes b) = subst (λ (j : KeptState). KeptAs j env y) (sym (put_there kept x k y (λ e. omega arith))) (done y b)
    go (no b) = let q : x ≡ y = omega arith in subst (λ (z : ℕ). KeptAs (kept_at (set kept x k) z) env z) q (kept_here env x _ (put_here kept x k inside ∙ e))

-- A state whose numbers in scope are kept, all below the count.
pub keeps_all : (n level : ℕ) (env : List Row) (kept : List KeptState) (count : ℕ) → Neat n (environment_of env) level
    → ((x : ℕ) (v : Variable) → environment_of env x ≡ live v → x < count)
    → ((y : ℕ) → y < count → KeptAs (kept_at kept y) env y) → KeepsAll kept count (environment_of env)
keeps_all n level env kept count N low done x v e =
    let l = low x v e in
    let K = done x l v e in
    let H = N.holds x v e in
    record {
      low = l;
      moved_from = sym K.0;
      borrow = sym K.1 ∙ end_lengths v.chain (kept_at kept x).roots (long_at env) (lengths (environment_of env)) (left v.chain)
          (λ y i. let R = H.recorded (place_at (long_at env) (left v.chain) y) (subst (λ (k : Borrow). Among (place_at (long_at env) (left v.chain) y) (places k)) K.1 i) in sym (live_length env y R.variable R.is).1);
    }

pub taken_below : (n count : ℕ) (env : List Row) → TableFor env n → count ≡ note_at env (suc n) → (x : ℕ) (v : Variable) → environment_of env x ≡ live v → x < count
taken_below n count env T e x v h = go (dec_lt x count)
  where
    go : Dec (x < count) → x < count
    go (yes l) = l
    go (no l) =
        let s = (live_status env x v h).0 in
        let z = T.2.untaken x (omega arith) in
        absurd (omega arith)
