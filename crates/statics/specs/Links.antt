-- Types (LANGUAGE 3.2): chains of 0 to 8 links to a number.
use Rattle.std.specs.Prelude.{ℕ, suc, Bool, true, false, List, [], ◌∷◌}
use Rattle.std.proofs.Math.Option.{Option, none, some}
use Rattle.syntax.specs.Result.{pick}

-- The kinds of links (LANGUAGE 3.2).
pub data Link : Type 0 where
  boxed shared exclusive : Link

-- The longest chain (LANGUAGE 3.2).
unfoldable pub max_links : ℕ
max_links = 8

-- The boxes before the first borrow link: the last own position (LANGUAGE 3.9).
unfoldable pub leading_boxes : List Link → ℕ
leading_boxes [] = 0
leading_boxes (boxed ∷ ks) = suc (leading_boxes ks)
leading_boxes (shared ∷ ks) = 0
leading_boxes (exclusive ∷ ks) = 0

-- Box and exclusive links only (36; LANGUAGE 3.22, 3.25).
unfoldable pub no_shared : List Link → Bool
no_shared [] = true
no_shared (boxed ∷ ks) = no_shared ks
no_shared (shared ∷ ks) = false
no_shared (exclusive ∷ ks) = no_shared ks

-- The last shared link of a link and those after it, from the last shared one of those after it (LANGUAGE 3.21).
unfoldable pub last_shared_with : Link → Option ℕ → Option ℕ
last_shared_with k (some j) = some (suc j)
last_shared_with boxed none = none
last_shared_with shared none = some 0
last_shared_with exclusive none = none

-- The last shared link, counted from 0 (LANGUAGE 3.5), if one is shared. It is asked of the links that a place passes (3.21).
unfoldable pub last_shared : List Link → Option ℕ
last_shared [] = none
last_shared (k ∷ ks) = last_shared_with k (last_shared ks)

-- The type of plain numbers (LANGUAGE 3.2).
unfoldable pub is_number : List Link → Bool
is_number [] = true
is_number (k ∷ ks) = false

-- What may be copied: a number, or a first link shared (37; LANGUAGE 3.19).
unfoldable pub copies : List Link → Bool
copies [] = true
copies (boxed ∷ ks) = false
copies (shared ∷ ks) = true
copies (exclusive ∷ ks) = false

-- The same kind of link (LANGUAGE 3.2).
unfoldable pub same_link : Link → Link → Bool
same_link boxed boxed = true
same_link boxed shared = false
same_link boxed exclusive = false
same_link shared boxed = false
same_link shared shared = true
same_link shared exclusive = false
same_link exclusive boxed = false
same_link exclusive shared = false
same_link exclusive exclusive = true

-- The same links (39; LANGUAGE 3.25).
unfoldable pub same_links : List Link → List Link → Bool
same_links [] [] = true
same_links [] (k ∷ ks) = false
same_links (k ∷ ks) [] = false
same_links (k ∷ ks) (j ∷ js) = pick (same_link k j) (same_links ks js) false
