-- A value is the same in another table, if what it borrows has as many links there.
use Prim.Native.Nat.{ℕ}
use native.Mathlib.Omega.{arith}
use mathlib.Core.Path.{◌≡◌, refl, sym, ap, subst}
use mathlib.Core.Option.{some}
use mathlib.Core.List.{List, [], ◌∷◌}
use lib.ListN.{length}
use Rattle.syntax.specs.Script.{Place}
use Rattle.std.specs.Prelude as value
use Rattle.variables.specs.declared.table.Row.{Row}
use Rattle.variables.specs.declared.roots.Roots.{Roots}
use Rattle.variables.specs.declared.verdicts.ValueType.{ValueType}
use Rattle.statics.specs.Links.{Link, boxed, shared, exclusive}
use Rattle.statics.specs.Environment.{Borrow, shared_of, exclusive_of, places, borrow_end, Variable, live}
use Rattle.statics.specs.Neat.{Among, Holds, NeatValue}
use Rattle.statics.specs.Roots.{place_at, places_of, left}
use Rattle.variables.specs.Masks.{has}
use Rattle.variables.specs.Chains.{chain_of}
use Rattle.variables.specs.Table.{long_at, places_in, end_in, environment_of, SameLinks}
use Rattle.variables.specs.Verdicts.{type_of, as_value}
use Rattle.variables.proofs.EntryLaws.{live_status}
use Rattle.variables.proofs.MaskLaws.{has_below}
use Rattle.statics.proofs.RootLaws.{same_roots, from_in}

-- Without a borrow link the places do not matter.
same_ends : (ks : List Link) (ps qs : List Place) → (places (borrow_end ks ps) ≡ ps → qs ≡ ps) → borrow_end ks qs ≡ borrow_end ks ps
unfolding borrow_end
same_ends [] ps qs h = refl
same_ends (boxed ∷ ks) ps qs h = same_ends ks ps qs h
same_ends (shared ∷ ks) ps qs h = ap shared_of (h refl)
same_ends (exclusive ∷ ks) ps qs h = ap exclusive_of (h refl)

-- The links of a variable in scope are those that the table has.
pub live_long : (env : List Row) (x : ℕ) (v : Variable) → environment_of env x ≡ live v → long_at env x ≡ length v.chain
live_long env x v e = ap (λ (w : Variable). length w.chain) (sym (live_status env x v e).1)

-- Each variable in scope has as many links in the other table.
abbrev pub AsLong : List Row → List Row → Type 0
AsLong env env' = (y : ℕ) (v : Variable) → environment_of env y ≡ live v → long_at env' y ≡ long_at env y

module _ (env env' : List Row) (long : AsLong env env') where
  same_end_in : (ks : List Link) (s : Roots) (level : ℕ) → Holds (environment_of env) ks level (end_in env ks s) → end_in env' ks s ≡ end_in env ks s
  unfolding places_of
  same_end_in ks s level H = same_ends ks (places_in env ks s) (places_in env' ks s)
      (λ e. same_roots 128 (has s) (has s) (long_at env') (long_at env) (left ks) (λ y. refl)
      (λ y h.
      let p = place_at (long_at env) (left ks) y in
      let i : Among p (places_in env ks s) = from_in (has s) (long_at env) (left ks) 0 128 y (omega arith) (let z = has_below s y h in omega arith) h in
      let R = H.recorded p (subst (λ (ps : List Place). Among p ps) (sym e) i) in
      long y R.variable R.is))

  pub same_value : (v : value.Option ValueType) (level : ℕ) → NeatValue (environment_of env) level (as_value env v) → as_value env' v ≡ as_value env v
  same_value value.None level n = refl
  same_value (value.Some t) level n =
      let ks = chain_of t.links in
      ap (λ (b : Borrow). some (type_of ks b)) (same_end_in ks t.roots level (n (type_of ks (end_in env ks t.roots)) refl))

-- The links of no variable have changed.
pub links_value : (env env' : List Row) → SameLinks env env' → (v : value.Option ValueType) → as_value env' v ≡ as_value env v
links_value env env' same value.None = refl
links_value env env' same (value.Some t) =
    let ks = chain_of t.links in
    ap (λ (ps : List Place). some (type_of ks (borrow_end ks ps))) (same_roots 128 (has t.roots) (has t.roots) (long_at env') (long_at env) (left ks) (λ y. refl) (λ y h. ap (λ (k : ℕ). length (chain_of k)) (same y)))
