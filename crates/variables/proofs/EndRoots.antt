-- Borrow ends by the roots of their places, in a table: which lengths count, and two of them united.
use Prim.Native.Nat.{ℕ}
use native.Mathlib.Omega.{arith}
use mathlib.Core.Path.{◌≡◌, refl, sym, ap, ◌∙◌, subst}
use mathlib.Core.Bool.{true}
use mathlib.Core.List.{List, [], ◌∷◌}
use lib.ListN.{length}
use Rattle.syntax.specs.Result.{pick}
use Rattle.syntax.specs.Script.{Place}
use Rattle.variables.specs.declared.table.Row.{Row}
use Rattle.variables.specs.declared.roots.Roots.{Roots}
use Rattle.statics.specs.Links.{Link, boxed, shared, exclusive}
use Rattle.statics.specs.Places.{unite}
use Rattle.statics.specs.Environment.{shared_of, exclusive_of, places, borrow_end, Variable, live}
use Rattle.statics.specs.Neat.{Among}
use Rattle.statics.specs.Roots.{links_of, lengths, place_at, places_of}
use Rattle.variables.specs.Masks.{has}
use Rattle.variables.specs.Table.{environment_of, long_at}
use Rattle.statics.proofs.RootLaws.{or, same_roots, from_in}
use Rattle.statics.proofs.RootSets.{unite_places}
use Rattle.variables.proofs.MaskLaws.{has_below}
use Rattle.variables.proofs.EntryLaws.{live_status}

-- Without a borrow link the places do not count.
end_same : (ks : List Link) (ps qs : List Place) → (places (borrow_end ks ps) ≡ ps → ps ≡ qs) → borrow_end ks ps ≡ borrow_end ks qs
unfolding borrow_end
end_same [] ps qs h = refl
end_same (boxed ∷ ks) ps qs h = end_same ks ps qs h
end_same (shared ∷ ks) ps qs h = ap shared_of (h refl)
end_same (exclusive ∷ ks) ps qs h = ap exclusive_of (h refl)

-- Of the lengths only those of the roots count whose places are recorded.
pub end_lengths : (ks : List Link) (s : Roots) (long long' : ℕ → ℕ) (m : ℕ)
    → ((y : ℕ) → Among (place_at long m y) (places (borrow_end ks (places_of 128 (has s) long m))) → long y ≡ long' y)
    → borrow_end ks (places_of 128 (has s) long m) ≡ borrow_end ks (places_of 128 (has s) long' m)
unfolding places_of
end_lengths ks s long long' m h = end_same ks (places_of 128 (has s) long m) (places_of 128 (has s) long' m)
    (λ e. same_roots 128 (has s) (has s) long long' m (λ y. refl)
    (λ y i. h y (subst (λ (ps : List Place). Among (place_at long m y) ps) (sym e) (from_in (has s) long m 0 128 y (omega arith) (let z = has_below s y i in omega arith) i))))

-- The table's length of a variable in scope is that of its chain.
pub live_length : (env : List Row) (y : ℕ) (v : Variable) → environment_of env y ≡ live v → (long_at env y ≡ length v.chain) × (lengths (environment_of env) y ≡ long_at env y)
unfolding links_of
live_length env y v e =
    let z = (live_status env y v e).1 in
    let a : long_at env y ≡ length v.chain = ap (λ (u : Variable). length u.chain) (sym z) in
    (a, ap links_of e ∙ sym a)

united_ends : (ks : List Link) (ps qs : List Place) → borrow_end ks (unite (places (borrow_end ks ps)) (places (borrow_end ks qs))) ≡ borrow_end ks (unite ps qs)
unfolding borrow_end
united_ends [] ps qs = refl
united_ends (boxed ∷ ks) ps qs = united_ends ks ps qs
united_ends (shared ∷ ks) ps qs = refl
united_ends (exclusive ∷ ks) ps qs = refl

-- With the roots of both.
pub end_united : (ks : List Link) (long : ℕ → ℕ) (m : ℕ) (a b u : Roots) → ((x : ℕ) → has u x ≡ pick (has a x) true (has b x))
    → borrow_end ks (places_of 128 (has u) long m) ≡ borrow_end ks (unite (places (borrow_end ks (places_of 128 (has a) long m))) (places (borrow_end ks (places_of 128 (has b) long m))))
end_united ks long m a b u h =
    ap (borrow_end ks) (same_roots 128 (has u) (λ x. or (has a x) (has b x)) long long m h (λ y i. refl) ∙ sym (unite_places 128 (has a) (has b) long m))
    ∙ sym (united_ends ks (places_of 128 (has a) long m) (places_of 128 (has b) long m))
