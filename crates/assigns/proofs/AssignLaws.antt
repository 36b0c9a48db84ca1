-- The answer of an assign but for 35, from what its parts found: the place, the roots of the value, whether they live long enough, and the table
-- after the write.
use Prim.Native.Nat.{ℕ, ◌≤◌}
use native.Mathlib.Omega.{arith}
use mathlib.Core.Path.{◌≡◌, refl, sym, ap, fun_ext, ◌∙◌, subst}
use mathlib.Core.Bool.{Bool, true, false}
use mathlib.Core.Option.{none}
use mathlib.Core.List.{List}
use lib.ListN.{length, take, drop}
use lib.Dec.{leb}
use borrow.Author.Tests.{eq-eqb, ne_eqb}
use Rattle.syntax.specs.Result.{ok, err, need, ◌>>=◌}
use Rattle.syntax.specs.Script.{Place}
use Rattle.variables.specs.declared.table.Row.{Row}
use Rattle.variables.specs.declared.roots.Roots.{Roots}
use Rattle.rules.specs.declared.rules.Located.{Located}
use Rattle.std.specs.Prelude.{Result, Some}
use Rattle.syntax.specs.declared.refusals.Reason.{Reason}
use Rattle.variables.specs.declared.verdicts.ValueType.{ValueType}
use Rattle.statics.specs.Links.{Link, leading_boxes, no_shared}
use Rattle.statics.specs.Places.{every}
use Rattle.statics.specs.Environment.{Borrow, places, borrow_end, Variable, Environment, write, level_of, lives_at}
use Rattle.statics.specs.Rules.{valued, judge_place, judge_write}
use Rattle.statics.specs.Neat.{Among, Neat}
use Rattle.statics.specs.Roots.{lengths, place_at, places_of, left}
use Rattle.variables.specs.Chains.{chain_of}
use Rattle.variables.specs.Masks.{has}
use Rattle.variables.specs.Table.{environment_of, links_at, long_at, places_in, end_in, Written}
use Rattle.variables.specs.Verdicts.{as_value}
use Rattle.rules.specs.RuleAnswers.{PlaceFound, LocatedIs}
use Rattle.variables.proofs.EqualChains.{same_links_law}
use Rattle.statics.proofs.LinkChains.{same_behind, same_end}
use Rattle.statics.proofs.SetOrder.{end_again}
use Rattle.statics.proofs.SetEquality.{every_same, write_same, turned}
use Rattle.statics.proofs.RootLaws.{from_in}
use Rattle.statics.proofs.NeatPaths.{own_link_law, led}
use Rattle.variables.proofs.EntryLaws.{live_status}

-- ---- what the parts answered

pub located_as : (nv : ℕ) (Γ : Environment) (i : ℕ) (p : Place) (r l : Result Located Reason) → LocatedIs nv Γ i p r → r ≡ l → LocatedIs nv Γ i p l
located_as nv Γ i p r l L e = subst (λ (k : Result Located Reason). LocatedIs nv Γ i p k) e L

pub passes_as : (follows k links : ℕ) (r b : Bool) → k ≡ follows → r ≡ no_shared (take k (chain_of links)) → r ≡ b → no_shared (take follows (chain_of links)) ≡ b
passes_as follows k links r b e f h = ap (λ (j : ℕ). no_shared (take j (chain_of links))) (sym e) ∙ sym f ∙ h

-- ---- the rule

module _ (n : ℕ) (env : List Row) (level : ℕ) (N : Neat n (environment_of env) level) (i : ℕ) (p : Place) (links rest : ℕ) (to : Roots)
    (F : PlaceFound n (environment_of env) p links rest to (judge_place n (environment_of env) i p)) where
  -- A variable that may be written has, from one of its own links on, the links that are left.
  own_rest : (x : ℕ) → has to x ≡ true → (r : ℕ) × (r ≤ leading_boxes (chain_of (links_at env x))) × (drop r (chain_of (links_at env x)) ≡ chain_of rest)
  unfolding places_of
  own_rest x h =
      let q = place_at (lengths (environment_of env)) (length (chain_of rest)) x in
      let a : Among q F.located.to = F.to.from q (from_in (has to) (lengths (environment_of env)) (length (chain_of rest)) 0 n x (omega arith) (let z = F.low x h in omega arith) h) in
      let E = (led N i p F.located F.is).ends q a in
      let z = (live_status env x E.0.variable E.0.is).1 in (
        q.follows,
        subst (λ (v : Variable). q.follows ≤ leading_boxes v.chain) z (own_link_law (environment_of env x) E.0.variable q.follows E.0.is E.1),
        ap (λ (v : Variable). drop q.follows v.chain) (sym z) ∙ E.0.rest ∙ F.after,
      )

  -- So what it records after the write is the borrow end of the value.
  written_end : (a s : Roots) → places (end_in env (chain_of rest) a) ≡ places_in env (chain_of rest) s → (x : ℕ) → has to x ≡ true
      → end_in env (chain_of (links_at env x)) s ≡ end_in env (chain_of rest) a
  written_end a s e x h =
      let o = own_rest x h in
      let ks = chain_of (links_at env x) in
      sym (same_end o.0 ks (places_in env ks s) o.1)
      ∙ ap (λ (js : List Link). borrow_end (drop o.0 ks) (places_of 128 (has s) (long_at env) (length js))) (sym (same_behind o.0 ks o.1))
      ∙ ap (λ (js : List Link). end_in env js s) o.2
      ∙ ap (borrow_end (chain_of rest)) (sym e)
      ∙ sym (end_again (chain_of rest) (places_in env (chain_of rest) a))

  after_links : drop p.follows (chain_of links) ≡ chain_of rest
  after_links = ap (drop p.follows) (sym F.chain) ∙ F.after

  -- The tests, one after the other: what the value is, and that each before is passed.
  module _ (t : ValueType) where
    pub shared_passed : no_shared (take p.follows (chain_of links)) ≡ false → judge_write n (environment_of env) i p (as_value env (Some t)) ≡ err (36, i)
    unfolding judge_write valued need ◌>>=◌
    shared_passed h = rw (F.is, F.chain, h) refl

    module _ (passed : no_shared (take p.follows (chain_of links)) ≡ true) where
      pub other_links : (rest ≡ t.links → ⊥) → judge_write n (environment_of env) i p (as_value env (Some t)) ≡ err (39, i)
      unfolding judge_write valued need ◌>>=◌
      other_links h = rw (F.is, F.chain, passed, after_links, same_links_law rest t.links, ne_eqb rest t.links h) refl

      module _ (same : rest ≡ t.links) (s : Roots) (recorded : places (end_in env (chain_of rest) t.roots) ≡ places_in env (chain_of rest) s) (long : Bool)
          (asked : (m k : ℕ) → long ≡ every (λ q. every (λ p. leb (level_of (environment_of env p.root)) (level_of (environment_of env q.root))) (places_of 128 (has s) (long_at env) m)) (places_of n (has to) (lengths (environment_of env)) k)) where
        abbrev b : Borrow
        b = end_in env (chain_of t.links) t.roots

        is_b : end_in env (chain_of rest) t.roots ≡ b
        is_b = ap (λ (k : ℕ). end_in env (chain_of k) t.roots) same

        lives : every (λ (q : Place). lives_at (environment_of env) b (level_of (environment_of env q.root))) F.located.to ≡ long
        unfolding lives_at
        lives =
            every_same F.to (λ (q : Place). lives_at (environment_of env) b (level_of (environment_of env q.root)))
            ∙ ap (λ (ps : List Place). every (λ q. every (λ p. leb (level_of (environment_of env p.root)) (level_of (environment_of env q.root))) ps) (places_of n (has to) (lengths (environment_of env)) (length (chain_of rest))))
            (ap places (sym is_b) ∙ recorded)
            ∙ sym (asked (left (chain_of rest)) (length (chain_of rest)))

        pub lives_too_short : long ≡ false → judge_write n (environment_of env) i p (as_value env (Some t)) ≡ err (40, i)
        unfolding judge_write valued need ◌>>=◌
        lives_too_short h = rw (F.is, F.chain, passed, after_links, same_links_law rest t.links, eq-eqb rest t.links same, lives, h) refl

        module _ (enough : long ≡ true) (env' : List Row) (W : Written env n to s env') where
          written_is : environment_of env' ≡ write (environment_of env) F.located.to b
          written_is =
              W.is b (length (chain_of rest)) (λ x h. written_end t.roots s recorded x h ∙ is_b)
              ∙ fun_ext (λ x. write_same (environment_of env) (places_of n (has to) (lengths (environment_of env)) (length (chain_of rest))) F.located.to b (turned F.to) x)

          pub written : judge_write n (environment_of env) i p (as_value env (Some t)) ≡ ok (environment_of env', none)
          unfolding judge_write valued need ◌>>=◌
          written = rw (F.is, F.chain, passed, after_links, same_links_law rest t.links, eq-eqb rest t.links same, lives, enough, ← written_is) refl
