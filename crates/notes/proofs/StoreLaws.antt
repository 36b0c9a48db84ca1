-- The words of a state put: loading gives the state again. Assumes nothing.
use Prim.Native.Nat.{ℕ, ◌%◌, ◌<◌}
use native.Mathlib.Omega.{arith}
use mathlib.Core.Path.{◌≡◌, sym, ap, ◌∙◌}
use mathlib.Core.List.{List}
use Rattle.variables.specs.declared.table.Row.{Row}
use Rattle.variables.specs.declared.roots.Roots.{Roots}
use Rattle.variables.specs.declared.table.VariableState.{VariableState}
use Rattle.variables.specs.Chains.{chain_of}
use Rattle.variables.specs.Masks.{has}
use Rattle.variables.specs.Table.{entry_word, links_at, roots_at, holders_at, borrow_end_of, end_roots, state_at, Fits, HolderNoted, Stored}
use Rattle.variables.proofs.WordLaws.{put_at_law, put_off, set_off, roots_put, roots_same, holders_same}
use Rattle.variables.proofs.TableLaws.{Put, PutSet}

module _ (n : ℕ) (env env₁ env₂ env₃ env₄ env₅ : List Row) (x : ℕ) (v : VariableState) (s : Roots) (fits : Fits v) (read : s ≡ end_roots v.borrow_end)
    (a : Put env x 1 v.links env₁) (b : Put env₁ x 4 v.moved_from env₂) (c : Put env₂ x 5 v.level env₃) (d : PutSet env₃ x 2 s env₄) (H : HolderNoted n env₄ x s env₅) where
  off : (y j : ℕ) → j < 9 → (x ≡ y → 1 ≡ j → ⊥) → (x ≡ y → 4 ≡ j → ⊥) → (x ≡ y → 5 ≡ j → ⊥) → (x ≡ y → 2 ≡ j → ⊥) → (x ≡ y → 6 ≡ j → ⊥)
      → entry_word env₄ y j ≡ entry_word env y j
  off y j l n₁ n₄ n₅ n₂ n₆ =
      set_off env₃ env₄ x 2 s d y j l n₂ n₆
      ∙ put_off env₂ env₃ x 5 v.level c y j l n₅
      ∙ put_off env₁ env₂ x 4 v.moved_from b y j l n₄
      ∙ put_off env env₁ x 1 v.links a y j l n₁

  -- Notes and status are none of the words put.
  off_words : (y j : ℕ) → j < 9 → (1 ≡ j → ⊥) → (4 ≡ j → ⊥) → (5 ≡ j → ⊥) → (2 ≡ j → ⊥) → (6 ≡ j → ⊥) → entry_word env₄ y j ≡ entry_word env y j
  off_words y j l n₁ n₄ n₅ n₂ n₆ = off y j l (λ p. n₁) (λ p. n₄) (λ p. n₅) (λ p. n₂) (λ p. n₆)

  -- A word put stays while the rest is put and noted.
  past : (j : ℕ) → j < 9 → (j ≡ 3 → ⊥) → (j ≡ 7 → ⊥) → (2 ≡ j → ⊥) → (6 ≡ j → ⊥) → entry_word env₅ x j ≡ entry_word env₃ x j
  past j l p q r t = H.entries x j l p q ∙ set_off env₃ env₄ x 2 s d x j l (λ e. r) (λ e. t)

  links_are : links_at env₅ x ≡ v.links
  links_are =
      past 1 (omega arith) (λ q. omega arith) (λ q. omega arith) (λ q. omega arith) (λ q. omega arith)
      ∙ put_off env₂ env₃ x 5 v.level c x 1 (omega arith) (λ p q. omega arith)
      ∙ put_off env₁ env₂ x 4 v.moved_from b x 1 (omega arith) (λ p q. omega arith)
      ∙ put_at_law env env₁ x 1 v.links a (omega arith)

  moved_is : entry_word env₅ x 4 ≡ v.moved_from
  moved_is =
      past 4 (omega arith) (λ q. omega arith) (λ q. omega arith) (λ q. omega arith) (λ q. omega arith)
      ∙ put_off env₂ env₃ x 5 v.level c x 4 (omega arith) (λ p q. omega arith)
      ∙ put_at_law env₁ env₂ x 4 v.moved_from b (omega arith)

  level_is : entry_word env₅ x 5 ≡ v.level
  level_is = past 5 (omega arith) (λ q. omega arith) (λ q. omega arith) (λ q. omega arith) (λ q. omega arith) ∙ put_at_law env₂ env₃ x 5 v.level c (omega arith)

  roots_are : roots_at env₅ x ≡ s
  roots_are = roots_same env₄ env₅ x (H.entries x 2 (omega arith) (λ q. omega arith) (λ q. omega arith)) (H.entries x 6 (omega arith) (λ q. omega arith) (λ q. omega arith)) ∙ roots_put env₃ env₄ x s d

  end_is : borrow_end_of (chain_of (links_at env₅ x)) (roots_at env₅ x) ≡ v.borrow_end
  end_is = rw (links_are, roots_are, read) (sym fits)

  state_is_law : state_at env₅ x ≡ v
  unfolding state_at
  state_is_law = λ i. record { links = links_are i; moved_from = moved_is i; borrow_end = end_is i; level = level_is i }

  holders : (r : ℕ) → holders_at env₄ r ≡ holders_at env r
  holders r =
      holders_same env env₄ r
      (off_words r 3 (omega arith) (λ q. omega arith) (λ q. omega arith) (λ q. omega arith) (λ q. omega arith) (λ q. omega arith))
      (off_words r 7 (omega arith) (λ q. omega arith) (λ q. omega arith) (λ q. omega arith) (λ q. omega arith) (λ q. omega arith))

  pub stored : Stored n env x v env₅
  stored = record {
    state = state_is_law;
    entries = λ y k l p q e. H.entries y k l p q ∙ off y k l (λ u w. omega (arith, e u)) (λ u w. omega (arith, e u)) (λ u w. omega (arith, e u)) (λ u w. omega (arith, e u)) (λ u w. omega (arith, e u));
    notes = λ y l. H.notes y l ∙ off_words y 8 (omega arith) (λ q. omega arith) (λ q. omega arith) (λ q. omega arith) (λ q. omega arith) (λ q. omega arith);
    kept = λ r y l h. H.kept r y l (ap (λ (k : Roots). has k y) (holders r) ∙ h);
    new = λ r l h. H.new r l (ap (λ (k : Roots). has k r) (sym roots_are) ∙ h);
  }
