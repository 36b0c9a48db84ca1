-- A chain of links (LANGUAGE 3.2) in one number: base 3 with the digits 1 box, 2 shared, 3 exclusive, the first link lowest. Each number is
-- exactly one chain. No rule of the language is stated here.
use Rattle.std.specs.Prelude as prelude
use Rattle.std.specs.Prelude.{ℕ, zero, suc, ◌*◌, ◌/◌, ◌%◌, ◌<◌, ◌≡◌, Bool, true, false, List, [], ◌∷◌, length, drop, leb}
use Rattle.std.proofs.Math.Option.{Option, none, some}
use Rattle.syntax.specs.Result.{pick}
use Rattle.variables.specs.declared.chains.Link as code
use Rattle.variables.specs.declared.chains.Link.TheVariants as link
use Rattle.statics.specs.Links.{Link, boxed, shared, exclusive, max_links}

-- The link of a digit less one.
abbrev pub link_of : ℕ → Link
link_of zero = boxed
link_of (suc zero) = shared
link_of (suc (suc n)) = exclusive

-- The first argument bounds the links.
unfoldable pub chain_by : ℕ → ℕ → List Link
chain_by zero n = []
chain_by (suc f) zero = []
chain_by (suc f) (suc n) = link_of (n % 3) ∷ chain_by f (n / 3)

unfoldable pub chain_of : ℕ → List Link
chain_of n = chain_by n n

-- The code's links in the rules' terms.
abbrev pub as_link : code.Link → Link
as_link link.Box = boxed
as_link link.Shared = shared
as_link link.Exclusive = exclusive

-- The first link and the chain after it, or no link is there.
abbrev pub IsSplit : ℕ → prelude.Option (code.Link × ℕ) → Type 0
IsSplit n r = prelude.MatchOption r (chain_of n ≡ []) (λ p. (chain_of n ≡ as_link p.0 ∷ chain_of p.1) × (p.1 * 3 < n))

-- The links from link k on, where k links come before.
unfoldable pub rest_of : ℕ → List Link → Option (List Link)
rest_of k ks = pick (leb k (length ks)) (some (drop k ks)) none

abbrev pub as_rest : prelude.Option ℕ → Option (List Link)
as_rest (prelude.Some n) = some (chain_of n)
as_rest prelude.None = none

-- The last shared link that is passed, if there is one.
abbrev pub as_passed : prelude.Option ℕ → Option ℕ
as_passed (prelude.Some n) = some n
as_passed prelude.None = none

-- The first borrow link is exclusive.
unfoldable pub is_exclusive : List Link → Bool
is_exclusive [] = false
is_exclusive (boxed ∷ ks) = is_exclusive ks
is_exclusive (shared ∷ ks) = false
is_exclusive (exclusive ∷ ks) = true

-- One more link makes at most 8 (LANGUAGE 3.2).
abbrev pub one_more_fits : ℕ → Bool
one_more_fits n = leb (suc (length (chain_of n))) max_links
