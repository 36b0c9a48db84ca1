-- There are no more different numbers below k than k.
use Prim.Native.Nat.{ℕ, zero, suc, ◌≤◌, ◌<◌, zero-le}
use native.Mathlib.Omega.{arith}
use native.Mathlib.Decide.{ℕ_discrete}
use mathlib.Core.Path.{◌≡◌, sym, ◌∙◌}
use mathlib.Core.Logic.{◌≢◌, ◌⊎◌, inl, inr}
use Rattle.statics.proofs.Choose.{choose, choose_yes, choose_no}

-- f, with its value at n in place of k.
swap : ℕ → (ℕ → ℕ) → ℕ → ℕ → ℕ
swap k f n i = choose (ℕ_discrete (f i) k) (f n) (f i)

swap_is : (k : ℕ) (f : ℕ → ℕ) (n i : ℕ) → ((f i ≡ k) × (swap k f n i ≡ f n)) ⊎ ((f i ≢ k) × (swap k f n i ≡ f i))
unfolding swap
swap_is k f n i = go (ℕ_discrete (f i) k)
  where
    go : Dec (f i ≡ k) → ((f i ≡ k) × (choose (ℕ_discrete (f i) k) (f n) (f i) ≡ f n)) ⊎ ((f i ≢ k) × (choose (ℕ_discrete (f i) k) (f n) (f i) ≡ f i))
    go (yes p) = inl (p, choose_yes (ℕ_discrete (f i) k) (f n) (f i) p)
    go (no p) = inr (p, choose_no (ℕ_discrete (f i) k) (f n) (f i) p)

pub pigeon : (k n : ℕ) (f : ℕ → ℕ) → ((i : ℕ) → i < n → f i < k) → ((i j : ℕ) → i < n → j < n → f i ≡ f j → i ≡ j) → n ≤ k
pigeon k zero f b inj = zero-le
pigeon zero (suc n) f b inj = absurd (omega (arith, b 0 (omega arith)))
pigeon (suc k) (suc n) f b inj =
    let r = pigeon k n (swap k f n) below same in omega arith
  where
    below : (i : ℕ) → i < n → swap k f n i < k
    below i h = go (swap_is k f n i)
      where
        last : f i ≡ k → f n ≢ k
        last p q = let z = inj i n (omega arith) (omega arith) (p ∙ sym q) in omega arith

        go : ((f i ≡ k) × (swap k f n i ≡ f n)) ⊎ ((f i ≢ k) × (swap k f n i ≡ f i)) → swap k f n i < k
        go (inl p) = let z = last p.0 in omega (arith, p.1, b n (omega arith))
        go (inr p) = let z = p.0 in omega (arith, p.1, b i (omega arith))

    same : (i j : ℕ) → i < n → j < n → swap k f n i ≡ swap k f n j → i ≡ j
    same i j h g e = go (swap_is k f n i) (swap_is k f n j)
      where
        go : ((f i ≡ k) × (swap k f n i ≡ f n)) ⊎ ((f i ≢ k) × (swap k f n i ≡ f i))
            → ((f j ≡ k) × (swap k f n j ≡ f n)) ⊎ ((f j ≢ k) × (swap k f n j ≡ f j)) → i ≡ j
        go (inl p) (inl q) = inj i j (omega arith) (omega arith) (p.0 ∙ sym q.0)
        go (inl p) (inr q) = let z = inj n j (omega arith) (omega arith) (sym p.1 ∙ e ∙ q.1) in absurd (omega arith)
        go (inr p) (inl q) = let z = inj i n (omega arith) (omega arith) (sym p.1 ∙ e ∙ q.1) in absurd (omega arith)
        go (inr p) (inr q) = inj i j (omega arith) (omega arith) (sym p.1 ∙ e ∙ q.1)
