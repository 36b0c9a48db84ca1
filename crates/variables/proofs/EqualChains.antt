-- Equal links are equal numbers: a chain's number is found again from its links.
use Prim.Native.Nat.{ℕ, zero, suc, ◌+◌, ◌*◌, ◌/◌, ◌%◌, ◌<◌, ◌≤◌}
use native.Mathlib.Omega.{arith}
use native.Mathlib.Decide.{ℕ_discrete}
use mathlib.Core.Path.{◌≡◌, refl, sym, ◌∙◌}
use mathlib.Core.Bool.{Bool, false}
use mathlib.Core.List.{List, [], ◌∷◌}
use lib.Dec.{eqb}
use borrow.Author.Tests.{eq-eqb, ne_eqb}
use Rattle.syntax.specs.Result.{pick}
use Rattle.statics.specs.Links.{Link, boxed, shared, exclusive, same_link, same_links}
use Rattle.variables.specs.Chains.{link_of, chain_by, chain_of}

abbrev digit : Link → ℕ
digit boxed = 1
digit shared = 2
digit exclusive = 3

abbrev packed : List Link → ℕ
packed [] = 0
packed (k ∷ ks) = packed ks * 3 + digit k

digit_of : (d : ℕ) → d < 3 → digit (link_of d) ≡ suc d
digit_of zero h = refl
digit_of (suc zero) h = refl
digit_of (suc (suc zero)) h = refl
digit_of (suc (suc (suc d))) h = absurd (omega arith)

packed_by : (f n : ℕ) → n ≤ f → packed (chain_by f n) ≡ n
unfolding chain_by
packed_by zero zero h = refl
packed_by zero (suc n) h = absurd (omega arith)
packed_by (suc f) zero h = refl
packed_by (suc f) (suc n) h = omega (arith, packed_by f (n / 3) (omega arith), digit_of (n % 3) (omega arith))

packed_chain : (n : ℕ) → packed (chain_of n) ≡ n
unfolding chain_of
packed_chain n = packed_by n n (omega arith)

scaled : (p q d : ℕ) → eqb p q ≡ eqb (p * 3 + d) (q * 3 + d)
scaled p q d = go (ℕ_discrete p q)
  where
    go : Dec (p ≡ q) → eqb p q ≡ eqb (p * 3 + d) (q * 3 + d)
    go (yes e) = eq-eqb p q e ∙ sym (eq-eqb (p * 3 + d) (q * 3 + d) (omega arith))
    go (no e) = ne_eqb p q e ∙ sym (ne_eqb (p * 3 + d) (q * 3 + d) (λ w. e (omega arith)))

-- A longer chain is not the empty one, and other first links make other numbers.
none_apart : (p : ℕ) (k : Link) → (0 ≡ p * 3 + digit k → ⊥) × (p * 3 + digit k ≡ 0 → ⊥)
none_apart p boxed = (λ w. omega arith, λ w. omega arith)
none_apart p shared = (λ w. omega arith, λ w. omega arith)
none_apart p exclusive = (λ w. omega arith, λ w. omega arith)

first_test : (p q : ℕ) (k j : Link) (b : Bool) → b ≡ eqb p q → pick (same_link k j) b false ≡ eqb (p * 3 + digit k) (q * 3 + digit j)
unfolding same_link
first_test p q boxed boxed b e = e ∙ scaled p q 1
first_test p q boxed shared b e = sym (ne_eqb (p * 3 + 1) (q * 3 + 2) (λ w. omega arith))
first_test p q boxed exclusive b e = sym (ne_eqb (p * 3 + 1) (q * 3 + 3) (λ w. omega arith))
first_test p q shared boxed b e = sym (ne_eqb (p * 3 + 2) (q * 3 + 1) (λ w. omega arith))
first_test p q shared shared b e = e ∙ scaled p q 2
first_test p q shared exclusive b e = sym (ne_eqb (p * 3 + 2) (q * 3 + 3) (λ w. omega arith))
first_test p q exclusive boxed b e = sym (ne_eqb (p * 3 + 3) (q * 3 + 1) (λ w. omega arith))
first_test p q exclusive shared b e = sym (ne_eqb (p * 3 + 3) (q * 3 + 2) (λ w. omega arith))
first_test p q exclusive exclusive b e = e ∙ scaled p q 3

same_packed : (ks js : List Link) → same_links ks js ≡ eqb (packed ks) (packed js)
unfolding same_links
same_packed [] [] = refl
same_packed [] (j ∷ js) = sym (ne_eqb 0 (packed js * 3 + digit j) (none_apart (packed js) j).0)
same_packed (k ∷ ks) [] = sym (ne_eqb (packed ks * 3 + digit k) 0 (none_apart (packed ks) k).1)
same_packed (k ∷ ks) (j ∷ js) = first_test (packed ks) (packed js) k j (same_links ks js) (same_packed ks js)

pub same_links_law : (a b : ℕ) → same_links (chain_of a) (chain_of b) ≡ eqb a b
same_links_law a b = same_packed (chain_of a) (chain_of b) ∙ rw (packed_chain a, packed_chain b)
