-- A variable is named later exactly while the last term that names it has not finished.
use Prim.Native.Nat.{ℕ, zero, suc}
use native.Mathlib.Omega.{arith}
use mathlib.Core.Path.{◌≡◌, refl, sym, ◌∙◌}
use mathlib.Core.Bool.{Bool, true, false}
use mathlib.Core.List.{[], ◌∷◌}
use lib.Dec.{ltb}
use lib.ListN.{drop}
use borrow.Author.Tests.{ltb-true, lt-ltb, le-ltb}
use Rattle.syntax.specs.Result.{pick}
use Rattle.statics.specs.Uses.{Unfinished, names, named_later, last_naming}
use Rattle.statics.proofs.Answers.{same_bool}

-- One more term in front: the last that names is one later, or it is the term itself, or there is none.
counted : Bool → ℕ → ℕ
counted b k = elim k [ zero ↦ pick b 1 0 | suc j ↦ suc (suc j) ]

one_more : (n k : ℕ) → ltb (suc n) (suc k) ≡ ltb n k
one_more n k = same_bool (ltb (suc n) (suc k)) (ltb n k) (λ e. lt-ltb n k (omega (arith, ltb-true (suc n) (suc k) e))) (λ e. lt-ltb (suc n) (suc k) (omega (arith, ltb-true n k e)))

later : (k n : ℕ) (b : Bool) → ltb (suc n) (counted b k) ≡ ltb n k
unfolding counted
later zero n true = le-ltb (suc n) 1 (omega arith) ∙ sym (le-ltb n 0 (omega arith))
later zero n false = le-ltb (suc n) 0 (omega arith) ∙ sym (le-ltb n 0 (omega arith))
later (suc k) n b = one_more n (suc k)

-- Some term names it just when there is a last that does.
now : (k : ℕ) (b c : Bool) → c ≡ ltb 0 k → elim b [ true ↦ true | false ↦ c ] ≡ ltb 0 (counted b k)
unfolding counted
now zero true c e = refl
now zero false c e = e
now (suc k) true c e = sym (lt-ltb 0 (suc (suc k)) (omega arith))
now (suc k) false c e = e ∙ lt-ltb 0 (suc k) (omega arith) ∙ sym (lt-ltb 0 (suc (suc k)) (omega arith))

-- After n terms have finished, x is named later just when the last that names it is not one of them (LANGUAGE 3.33).
pub named_later_is : (ns : Unfinished) (n x : ℕ) → named_later (drop n ns) x ≡ ltb n (last_naming ns x)
unfolding named_later last_naming counted
named_later_is [] zero x = refl
named_later_is [] (suc n) x = sym (le-ltb (suc n) 0 (omega arith))
named_later_is (xs ∷ ns) zero x = now (last_naming ns x) (names xs x) (named_later ns x) (named_later_is ns zero x)
named_later_is (xs ∷ ns) (suc n) x = named_later_is ns n x ∙ sym (later (last_naming ns x) n (names xs x))
