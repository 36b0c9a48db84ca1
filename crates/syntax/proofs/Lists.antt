-- Stores and parts of lists, as the code leaves and hands them on.
use Prim.Native.Nat.{ℕ, zero, suc, ◌+◌, ◌-◌, ◌≤◌, ◌<◌}
use native.Mathlib.Omega.{arith}
use mathlib.Core.Path.{◌≡◌, refl, ap, ◌∙◌}
use mathlib.Core.List.{List, [], ◌∷◌, ◌++◌}
use lib.ListN.{length, get_or, take, drop, set, length-drop}
use lib.Seq.{sets, sets-eq}
use mir.Val.{Fits}
use mir.Syntax.{w8}
use Rattle.syntax.specs.Within.{Under}

-- One run of stores after another.
pub sets_append : (l : List ℕ) (i : ℕ) (vs ws : List ℕ) (j : ℕ) → j ≡ i + length vs → sets (sets l i vs) j ws ≡ sets l i (vs ++ ws)
sets_append l i [] ws j e = ap (λ (k : ℕ). sets l k ws) (omega arith)
sets_append l i (v ∷ vs) ws j e = sets_append (set l i v) (suc i) vs ws j (omega arith)

-- Stores at the front: what was stored, and the rest as it was.
pub sets_front : (l vs : List ℕ) → length vs ≤ length l → sets l 0 vs ≡ vs ++ drop (length vs) l
sets_front l vs h =
    let e : 0 + length vs ≡ length vs = omega arith in
    sets-eq vs l 0 (omega arith) ∙ ap (λ (k : ℕ). vs ++ drop k l) e

take_all : (l : List ℕ) (n : ℕ) → length l ≤ n → take n l ≡ l
take_all [] zero h = refl
take_all [] (suc n) h = refl
take_all (x ∷ l) zero h = absurd (omega arith)
take_all (x ∷ l) (suc n) h = ap (λ (r : List ℕ). x ∷ r) (take_all l n (omega arith))

-- A part that runs to the end, as a callee gets it.
pub part_all : (s : List ℕ) (a : ℕ) → take (length s - a) (drop a s) ≡ drop a s
part_all s a = take_all (drop a s) (length s - a) (omega (arith, length-drop a s))

pub under_drop : (n : ℕ) (k : ℕ) (xs : List ℕ) → Under n xs → Under n (drop k xs)
under_drop n zero xs u = u
under_drop n (suc k) [] u = u
under_drop n (suc k) (x ∷ xs) u = under_drop n k xs u.1

-- What the type of a slice says of each element, said of all.
pub under_all : (n : ℕ) (xs : List ℕ) → ((i : ℕ) → get_or xs i 0 < n) → Under n xs
under_all n [] h = tt
under_all n (x ∷ xs) h = (h 0, under_all n xs (λ i. h (suc i)))

pub under_bytes : (xs : List ℕ) → ((i : ℕ) → Fits w8 (get_or xs i 0)) → Under 256 xs
under_bytes xs h = under_all 256 xs (λ i. omega (arith, h i))

-- What is not 0 stands in the list.
pub within_list : (t : List ℕ) (j : ℕ) → 0 < get_or t j 0 → j < length t
within_list [] j h = absurd (omega arith)
within_list (x ∷ t) zero h = omega arith
within_list (x ∷ t) (suc j) h = omega (arith, within_list t j h)
