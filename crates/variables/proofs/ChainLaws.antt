-- A chain as a number: what the code's tests and divisions say of the chain.
use Prim.Native.Nat.{ℕ, zero, suc, ◌+◌, ◌*◌, ◌-◌, ◌/◌, ◌%◌, ◌<◌, ◌≤◌}
use native.Mathlib.Omega.{arith}
use native.Mathlib.Nat.{sub-zero}
use native.Mathlib.Numerals.{sub-one}
use native.Mathlib.Decide.{dec_lt}
use mathlib.Core.Path.{◌≡◌, refl, sym, ap, ◌∙◌}
use mathlib.Core.Bool.{Bool, true, false, not, false≢true}
use mathlib.Core.Option.{Option, none, some}
use mathlib.Core.List.{List, [], ◌∷◌}
use denote.Enum.Bare.{sameb}
use denote.Enum.Declared.{tag_of}
use lib.Dec.{leb, ltb, eqb}
use lib.ListN.{length, take, drop}
use borrow.Author.Tests.{ne_eqb, lt-ltb, le-ltb, le-leb, lt-leb, leb-true}
use Rattle.syntax.specs.Result.{pick}
use Rattle.std.specs.Prelude as prelude
use Rattle.statics.specs.Links.{Link, same_link, boxed, shared, exclusive, max_links, leading_boxes, no_shared, last_shared_with, last_shared, is_number, copies}
use Rattle.variables.specs.declared.chains.Link as code
use Rattle.variables.specs.declared.chains.Link.TheVariants as link
use Rattle.variables.specs.contracts.chains.Link.{the_type}
use Rattle.variables.specs.Chains.{link_of, chain_by, chain_of, as_link, rest_of, as_rest, as_passed, one_more_fits}

-- Any bound that is large enough gives the same chain.
bounded : (f g n : ℕ) → n ≤ f → n ≤ g → chain_by f n ≡ chain_by g n
unfolding chain_by
bounded zero zero n a b = refl
bounded zero (suc g) zero a b = refl
bounded zero (suc g) (suc n) a b = absurd (omega arith)
bounded (suc f) zero zero a b = refl
bounded (suc f) zero (suc n) a b = absurd (omega arith)
bounded (suc f) (suc g) zero a b = refl
bounded (suc f) (suc g) (suc n) a b = ap (λ (l : List Link). link_of (n % 3) ∷ l) (bounded f g (n / 3) (omega arith) (omega arith))

chain_suc : (n : ℕ) → chain_of (suc n) ≡ link_of (n % 3) ∷ chain_of (n / 3)
unfolding chain_of chain_by
chain_suc n = ap (λ (l : List Link). link_of (n % 3) ∷ l) (bounded n (n / 3) (n / 3) (omega arith) (omega arith))

pub chain_pos : (n : ℕ) → 0 < n → chain_of n ≡ link_of ((n - 1) % 3) ∷ chain_of ((n - 1) / 3)
chain_pos zero h = absurd (omega arith)
chain_pos (suc n) h = rw sub-one (chain_suc n)

pub chain_none : (n : ℕ) → n ≤ 0 → chain_of n ≡ []
unfolding chain_of chain_by
chain_none zero h = refl
chain_none (suc n) h = absurd (omega arith)

-- The first link is that of the lowest digit less one.
chain_digit : (n d : ℕ) → 0 < d → d ≤ 3 → n % 3 ≡ d % 3 → 0 < n → chain_of n ≡ link_of (d - 1) ∷ chain_of ((n - 1) / 3)
chain_digit n d a b e h = let z : (n - 1) % 3 ≡ d - 1 = omega arith in rw (chain_pos n h, z)

pub chain_more : (d n : ℕ) → 0 < d → d ≤ 3 → chain_of (n * 3 + d) ≡ link_of (d - 1) ∷ chain_of n
chain_more d n a b = let z : (n * 3 + d - 1) / 3 ≡ n = omega arith in rw (chain_digit (n * 3 + d) d a b (omega arith) (omega arith), z)

-- The digit of a link.
pub digit_is : (l : code.Link) → (tag_of the_type l + 1 ≤ 3) × ((n : ℕ) → chain_of (n * 3 + (tag_of the_type l + 1)) ≡ as_link l ∷ chain_of n)
digit_is link.Box = (omega arith, λ n. chain_more 1 n (omega arith) (omega arith))
digit_is link.Shared = (omega arith, λ n. chain_more 2 n (omega arith) (omega arith))
digit_is link.Exclusive = (omega arith, λ n. chain_more 3 n (omega arith) (omega arith))

-- A number, and what is copied.
pub number_test : (n : ℕ) → eqb n 0 ≡ is_number (chain_of n)
unfolding is_number
number_test zero = rw (chain_none 0 (omega arith))
number_test (suc n) = rw (ne_eqb (suc n) 0 (λ w. omega arith), chain_suc n)

-- Which link is shared, as the code asks.
abbrev pub is_shared : code.Link → Bool
is_shared link.Box = false
is_shared link.Shared = true
is_shared link.Exclusive = false

pub same_shared : (l : code.Link) → sameb the_type l link.Shared ≡ is_shared l
same_shared link.Box = refl
same_shared link.Shared = refl
same_shared link.Exclusive = refl

abbrev pub not_box : code.Link → Bool
not_box link.Box = false
not_box link.Shared = true
not_box link.Exclusive = true

pub differs_box : (l : code.Link) → not (sameb the_type l link.Box) ≡ not_box l
differs_box link.Box = refl
differs_box link.Shared = refl
differs_box link.Exclusive = refl

pub copies_none : true ≡ copies []
unfolding copies
copies_none = refl

pub copies_first : (l : code.Link) (ks : List Link) → is_shared l ≡ copies (as_link l ∷ ks)
unfolding copies
copies_first link.Box ks = refl
copies_first link.Shared ks = refl
copies_first link.Exclusive ks = refl

-- The length.
pub length_pos : (n : ℕ) → 0 < n → length (chain_of n) ≡ suc (length (chain_of ((n - 1) / 3)))
length_pos n h = rw (chain_pos n h)

pub length_none : (n : ℕ) → n ≤ 0 → length (chain_of n) ≡ 0
length_none n h = rw (chain_none n h)

-- The chains of at most k links are the numbers below this.
abbrev bound : ℕ → ℕ
bound zero = 1
bound (suc k) = bound k * 3 + 1

short : (k n : ℕ) → n < bound k → length (chain_of n) ≤ k
short zero zero h = omega (arith, length_none 0 (omega arith))
short zero (suc n) h = absurd (omega arith)
short (suc k) zero h = omega (arith, length_none 0 (omega arith))
short (suc k) (suc n) h = omega (arith, length_pos (suc n) (omega arith), short k ((suc n - 1) / 3) (omega arith))

bound_pos : (k : ℕ) → 0 < bound k
bound_pos zero = omega arith
bound_pos (suc k) = omega arith

long : (k n : ℕ) → bound k ≤ n → k < length (chain_of n)
long zero zero h = absurd (omega arith)
long zero (suc n) h = omega (arith, length_pos (suc n) (omega arith))
long (suc k) zero h = absurd (omega (arith, bound_pos k))
long (suc k) (suc n) h = omega (arith, length_pos (suc n) (omega arith), long k ((suc n - 1) / 3) (omega arith))

pub fits_test : (n : ℕ) → ltb n 3280 ≡ one_more_fits n
unfolding max_links
fits_test n = go (dec_lt n 3280)
  where
    go : Dec (n < 3280) → ltb n 3280 ≡ leb (suc (length (chain_of n))) 8
    go (yes h) = lt-ltb n 3280 h ∙ sym (le-leb (suc (length (chain_of n))) 8 (omega (arith, short 7 n h)))
    go (no h) = le-ltb n 3280 (omega arith) ∙ sym (lt-leb (suc (length (chain_of n))) 8 (omega (arith, long 7 n (omega arith))))

pub fits_below : (n : ℕ) → one_more_fits n ≡ true → n < 3280
unfolding max_links
fits_below n e = go (dec_lt n 3280)
  where
    go : Dec (n < 3280) → n < 3280
    go (yes h) = h
    go (no h) = absurd (omega (arith, long 7 n (omega arith), leb-true (suc (length (chain_of n))) 8 e))

-- The boxes before the first borrow link.
pub boxes_none : leading_boxes [] ≡ 0
unfolding leading_boxes
boxes_none = refl

pub boxes_more : (l : code.Link) (ks : List Link) → not_box l ≡ false → leading_boxes (as_link l ∷ ks) ≡ suc (leading_boxes ks)
unfolding leading_boxes
boxes_more link.Box ks h = refl
boxes_more link.Shared ks h = absurd (false≢true (sym h))
boxes_more link.Exclusive ks h = absurd (false≢true (sym h))

pub boxes_end : (l : code.Link) (ks : List Link) → not_box l ≡ true → leading_boxes (as_link l ∷ ks) ≡ 0
unfolding leading_boxes
boxes_end link.Box ks h = absurd (false≢true h)
boxes_end link.Shared ks h = refl
boxes_end link.Exclusive ks h = refl

-- The links after some of them are a number too.
pub rest_number : (k n : ℕ) → (m : ℕ) × (drop k (chain_of n) ≡ chain_of m)
rest_number zero n = (n, refl)
rest_number (suc k) n = go (rest_number k ((n - 1) / 3)) (dec_lt 0 n)
  where
    go : (m : ℕ) × (drop k (chain_of ((n - 1) / 3)) ≡ chain_of m) → Dec (0 < n) → (m : ℕ) × (drop (suc k) (chain_of n) ≡ chain_of m)
    go r (yes h) = (r.0, ap (λ (ks : List Link). drop (suc k) ks) (chain_pos n h) ∙ r.1)
    go r (no h) = (0, ap (λ (ks : List Link). drop (suc k) ks) (chain_none n (omega arith)) ∙ sym (chain_none 0 (omega arith)))

-- The links from one on, after one link more.
pub rest_short : (left : ℕ) → 0 < left → rest_of left [] ≡ none
unfolding rest_of
rest_short left h = rw (lt-leb left 0 h)

rest_less : (j : ℕ) (k : Link) (ks : List Link) → rest_of j ks ≡ rest_of (suc j) (k ∷ ks)
unfolding rest_of
rest_less j k ks = go (dec_lt (length ks) j)
  where
    go : Dec (length ks < j) → pick (leb j (length ks)) (some (drop j ks)) none ≡ pick (leb (suc j) (suc (length ks))) (some (drop j ks)) none
    go (yes h) = rw (lt-leb j (length ks) h, lt-leb (suc j) (suc (length ks)) (omega arith))
    go (no h) = rw (le-leb j (length ks) (omega arith), le-leb (suc j) (suc (length ks)) (omega arith))

pub rest_more : (left j : ℕ) (k : Link) (ks : List Link) → left ≡ suc j → rest_of j ks ≡ rest_of left (k ∷ ks)
rest_more left j k ks h = rw h (rest_less j k ks)

pub rest_end : (left : ℕ) (ks : List Link) → left ≤ 0 → rest_of left ks ≡ some ks
unfolding rest_of
rest_end zero ks h = rw (le-leb 0 (length ks) (omega arith))
rest_end (suc j) ks h = absurd (omega arith)

-- What the code is told of the chain from link k on.
module _ {r : prelude.Option ℕ} (k : ℕ) (ks : List Link) (answered : as_rest r ≡ rest_of k ks) where
  pub rest_there : {n : ℕ} → r ≡ prelude.Some n → (k ≤ length ks) × (drop k ks ≡ chain_of n)
  unfolding rest_of
  rest_there {n} e = go (dec_lt (length ks) k)
    where
      told : some (chain_of n) ≡ pick (leb k (length ks)) (some (drop k ks)) none
      told = ap as_rest (sym e) ∙ answered

      go : Dec (length ks < k) → (k ≤ length ks) × (drop k ks ≡ chain_of n)
      go (yes h) = let w = told ∙ ap (λ b. pick b (some (drop k ks)) none) (lt-leb k (length ks) h) in let z : ◌≡◌ {A = ℕ} 0 1 = cc in absurd (omega arith)
      go (no h) = let w = told ∙ ap (λ b. pick b (some (drop k ks)) none) (le-leb k (length ks) (omega arith)) in (omega arith, cc)

  pub rest_missing : r ≡ prelude.None → length ks < k
  unfolding rest_of
  rest_missing e = go (dec_lt (length ks) k)
    where
      told : none ≡ pick (leb k (length ks)) (some (drop k ks)) none
      told = ap as_rest (sym e) ∙ answered

      go : Dec (length ks < k) → length ks < k
      go (yes h) = h
      go (no h) = let w = told ∙ ap (λ b. pick b (some (drop k ks)) none) (le-leb k (length ks) (omega arith)) in let z : ◌≡◌ {A = ℕ} 0 1 = cc in absurd (omega arith)

-- The last shared link, with n links passed: it is among those still to pass, or was passed before.
pub last_of : Option ℕ → ℕ → Option ℕ → Option ℕ
last_of before n none = before
last_of before n (some j) = some (n + j)

-- No link is passed yet.
pub last_start : (k rest : ℕ) → last_of none 0 (last_shared (take (k - 0) (chain_of rest))) ≡ last_shared (take k (chain_of rest))
unfolding last_of
last_start k rest = rw (sub-zero k) (go (last_shared (take k (chain_of rest))))
  where
    go : (m : Option ℕ) → last_of none 0 m ≡ m
    go none = refl
    go (some j) = ap some (omega arith)

-- No link is left, or none to pass.
pub last_over : (before : Option ℕ) (n left : ℕ) → before ≡ last_of before n (last_shared (take left []))
unfolding last_of last_shared
last_over before n zero = refl
last_over before n (suc j) = refl

pub last_end : (before : Option ℕ) (n left : ℕ) (ks : List Link) → left ≤ 0 → before ≡ last_of before n (last_shared (take left ks))
unfolding last_of last_shared
last_end before n zero ks h = refl
last_end before n (suc j) ks h = absurd (omega arith)

-- One link more is passed: it is shared, or the last shared one is the same as before.
last_first : (before : Option ℕ) (n : ℕ) (l : code.Link) (m : Option ℕ) → last_of (pick (is_shared l) (some n) before) (n + 1) m ≡ last_of before n (last_shared_with (as_link l) m)
unfolding last_of last_shared_with
last_first before n l (some j) = ap some (omega arith)
last_first before n link.Box none = refl
last_first before n link.Shared none = ap some (omega arith)
last_first before n link.Exclusive none = refl

pub last_more : (before last : Option ℕ) (n left j : ℕ) (l : code.Link) (ks : List Link) → left ≡ suc j → last ≡ pick (is_shared l) (some n) before
    → last_of last (n + 1) (last_shared (take j ks)) ≡ last_of before n (last_shared (take left (as_link l ∷ ks)))
unfolding last_shared
last_more before last n left j l ks h e = rw (h, e) (last_first before n l (last_shared (take j ks)))

-- Only boxes and exclusive links, where no link is the last shared one.
is_none : Option ℕ → Bool
is_none none = true
is_none (some j) = false

none_with : (k : Link) (m : Option ℕ) → is_none (last_shared_with k m) ≡ pick (same_link k shared) false (is_none m)
unfolding is_none last_shared_with same_link
none_with boxed none = refl
none_with boxed (some j) = refl
none_with shared none = refl
none_with shared (some j) = refl
none_with exclusive none = refl
none_with exclusive (some j) = refl

none_shared : (ks : List Link) → is_none (last_shared ks) ≡ no_shared ks
unfolding is_none last_shared no_shared same_link
none_shared [] = refl
none_shared (boxed ∷ ks) = none_with boxed (last_shared ks) ∙ none_shared ks
none_shared (shared ∷ ks) = none_with shared (last_shared ks)
none_shared (exclusive ∷ ks) = none_with exclusive (last_shared ks) ∙ none_shared ks

pub none_passed : (o : prelude.Option ℕ) (ks : List Link) (r : Bool) → as_passed o ≡ last_shared ks → prelude.is_some o ≡ not r → r ≡ no_shared ks
unfolding is_none
none_passed prelude.None ks true e h = ap is_none e ∙ none_shared ks
none_passed prelude.None ks false e h = absurd (false≢true h)
none_passed (prelude.Some j) ks true e h = absurd (false≢true (sym h))
none_passed (prelude.Some j) ks false e h = ap is_none e ∙ none_shared ks
