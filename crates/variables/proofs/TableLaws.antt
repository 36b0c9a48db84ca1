-- The table by its words: a word that is put, numbers by their status, and words that no rule looks at. Assumes nothing.
use Prim.Native.Nat.{ℕ, ◌+◌, ◌*◌, ◌<◌, ◌≤◌}
use native.Mathlib.Omega.{arith}
use native.Mathlib.Decide.{ℕ_discrete, dec_lt}
use mathlib.Core.Path.{◌≡◌, refl, sym, ap, ap₂, ◌∙◌}
use mathlib.Core.Logic.{⊎_elim, ◌⊎◌, inl, inr}
use mathlib.Core.Bool.{Bool, true, false, not, ◌&&◌}
use mathlib.Core.List.{List}
use denote.Enum.Bare.{sameb}
use lib.Dec.{eqb, leb}
use lib.ListN.{length, set, get_or, length-set}
use lib.Seq.{get_or-set_same, get_or-set_other}
use borrow.Author.Tests.{eq-eqb, ne_eqb, leb-true, leb-false}
use Rattle.syntax.specs.Result.{pick}
use Rattle.variables.specs.declared.table.Row.{Row}
use Rattle.variables.specs.declared.roots.Roots.{Roots}
use Rattle.variables.specs.declared.table.Status.{Status}
use Rattle.variables.specs.declared.table.Status.TheVariants as status
use Rattle.variables.specs.contracts.table.Status.{the_type}
use Rattle.variables.specs.declared.table.Entry.TheVariants as entry
use Rattle.statics.specs.Links.{Link}
use Rattle.statics.specs.Environment.{free, used, borrow_end, level_of, is_free}
use Rattle.variables.specs.Chains.{chain_of}
use Rattle.variables.specs.Masks.{has}
use Rattle.variables.specs.Table.{entry_word, links_at, long_at, roots_at, end_in, variable_of, slot_as, environment_of, state_at, entry_at, TableFor, SameLinks, put_at, put_set, row_at, words_of, blank, status_number}
use Rattle.statics.proofs.RootLaws.{same_roots}
use Rattle.variables.proofs.EntryLaws.{status_live}

-- ---- a word that is put

module _ (words : ℕ → ℕ → ℕ) (x k word : ℕ) where
  pub put_there : put_at words x k word x k ≡ word
  unfolding put_at
  put_there = rw (eq-eqb x x refl, eq-eqb k k refl) refl

  pub put_row : (y j : ℕ) → (x ≡ y → ⊥) → put_at words x k word y j ≡ words y j
  unfolding put_at
  put_row y j n = rw (ne_eqb x y n) refl

  pub put_word : (y j : ℕ) → (k ≡ j → ⊥) → put_at words x k word y j ≡ words y j
  unfolding put_at
  put_word y j n = go (eqb x y)
    where
      go : (b : Bool) → pick (b && eqb k j) word (words y j) ≡ words y j
      go true = rw (ne_eqb k j n) refl
      go false = refl

-- Equal words before are equal words after.
pub put_same : (words words' : ℕ → ℕ → ℕ) (x k word y j : ℕ) → words y j ≡ words' y j → put_at words x k word y j ≡ put_at words' x k word y j
unfolding put_at
put_same words words' x k word y j e = ap (λ (w : ℕ). pick (eqb x y && eqb k j) word w) e

-- What a function that puts a word leaves.
abbrev pub Put : List Row → ℕ → ℕ → ℕ → List Row → Type 0
Put env x k word env' = (y j : ℕ) → j < 9 → entry_word env' y j ≡ put_at (entry_word env) x k word y j

-- The same of a set.
abbrev pub PutSet : List Row → ℕ → ℕ → Roots → List Row → Type 0
PutSet env x k s env' = (y j : ℕ) → j < 9 → entry_word env' y j ≡ put_set (entry_word env) x k s y j

own_row : (words : ℕ → ℕ → ℕ) (x k word j : ℕ) → put_at words x k word x j ≡ pick (eqb k j) word (words x j)
unfolding put_at
own_row words x k word j = ap (λ (b : Bool). pick (b && eqb k j) word (words x j)) (eq-eqb x x refl)

list_put : (ws : List ℕ) (k word : ℕ) → k < length ws → (j : ℕ) → get_or (set ws k word) j 0 ≡ pick (eqb k j) word (get_or ws j 0)
list_put ws k word b j = go (ℕ_discrete k j)
  where
    go : Dec (k ≡ j) → get_or (set ws k word) j 0 ≡ pick (eqb k j) word (get_or ws j 0)
    go (yes e) =
        ap (λ (i : ℕ). get_or (set ws k word) i 0) (sym e) ∙ get_or-set_same ws k word 0 b ∙ sym (ap (λ (t : Bool). pick t word (get_or ws j 0)) (eq-eqb k j e))
    go (no e) = get_or-set_other ws k j word 0 (λ q. e (sym q)) ∙ sym (ap (λ (t : Bool). pick t word (get_or ws j 0)) (ne_eqb k j e))

-- A row is put: the others are as they were. The words of the new one are those of the old one but for one word, or the two of a set.
module _ (l : List Row) (x : ℕ) (room : x < length l) (r : Row) where
  abbrev old : List ℕ
  old = words_of (row_at l x)

  row_put : (words : ℕ → ℕ → ℕ) → ((y j : ℕ) → (x ≡ y → ⊥) → words y j ≡ entry_word l y j) → ((j : ℕ) → get_or (words_of r) j 0 ≡ words x j)
      → (y j : ℕ) → entry_word (set l x r) y j ≡ words y j
  row_put words others own y j = go (ℕ_discrete x y)
    where
      go : Dec (x ≡ y) → entry_word (set l x r) y j ≡ words y j
      go (yes e) =
          ap (λ (z : ℕ). entry_word (set l x r) z j) (sym e)
          ∙ ap (λ (s : Row). get_or (words_of s) j 0) (get_or-set_same l x r blank room)
          ∙ own j
          ∙ ap (λ (z : ℕ). words z j) e
      go (no e) = ap (λ (s : Row). get_or (words_of s) j 0) (get_or-set_other l x y r blank (λ q. e (sym q))) ∙ sym (others y j e)

  pub field_put : (k word : ℕ) → k < 9 → words_of r ≡ set old k word → Put l x k word (set l x r)
  field_put k word b h y j c =
      row_put (put_at (entry_word l) x k word) (put_row (entry_word l) x k word)
      (λ i. ap (λ (ws : List ℕ). get_or ws i 0) h ∙ list_put old k word b i ∙ sym (own_row (entry_word l) x k word i)) y j

  pub set_put : (k : ℕ) (s : Roots) → k < 4 → words_of r ≡ set (set old k s.low) (k + 4) s.high → PutSet l x k s (set l x r)
  set_put k s b h y j c =
      let first = put_at (entry_word l) x k s.low in
      row_put (put_at first x (k + 4) s.high) (λ z i n. put_row first x (k + 4) s.high z i n ∙ put_row (entry_word l) x k s.low z i n)
      (λ i. ap (λ (ws : List ℕ). get_or ws i 0) h
      ∙ list_put (set old k s.low) (k + 4) s.high (simp length-set (omega arith)) i
      ∙ ap (pick (eqb (k + 4) i) s.high) (list_put old k s.low (omega arith) i ∙ sym (own_row (entry_word l) x k s.low i))
      ∙ sym (own_row first x (k + 4) s.high i)) y j

-- ---- a number by its status

not_both : (b : Bool) → not b ≡ true → b ≡ false
not_both true h = sym h
not_both false h = refl

not_neither : (b : Bool) → not b ≡ false → b ≡ true
not_neither true h = refl
not_neither false h = sym h

pub free_if : (s : Status) → sameb the_type s status.Free ≡ eqb (status_number s) 0
free_if status.Free = refl
free_if status.Used = refl
free_if status.Live = refl

-- What a test for being in scope says.
live_if : (s : Status) → sameb the_type s status.Live ≡ leb 2 (status_number s)
live_if status.Free = refl
live_if status.Used = refl
live_if status.Live = refl

pub now_live : (s : Status) (b : Bool) → b ≡ sameb the_type s status.Live → b ≡ true → 2 ≤ status_number s
now_live s b e h = leb-true 2 (status_number s) (sym (live_if s) ∙ sym e ∙ h)

pub now_dead : (s : Status) (b : Bool) → b ≡ sameb the_type s status.Live → b ≡ false → status_number s < 2
now_dead s b e h = leb-false 2 (status_number s) (sym (live_if s) ∙ sym e ∙ h)

pub not_dead : (s : Status) (b : Bool) → b ≡ not (sameb the_type s status.Live) → b ≡ false → 2 ≤ status_number s
not_dead s b e h = now_live s (sameb the_type s status.Live) refl (not_neither (sameb the_type s status.Live) (sym e ∙ h))

pub is_dead : (s : Status) (b : Bool) → b ≡ not (sameb the_type s status.Live) → b ≡ true → status_number s < 2
is_dead s b e h = now_dead s (sameb the_type s status.Live) refl (not_both (sameb the_type s status.Live) (sym e ∙ h))

module _ (env : List Row) (x : ℕ) where
  pub slot_free : entry_word env x 0 ≡ 0 → environment_of env x ≡ free
  unfolding environment_of slot_as
  slot_free e = rw e refl

  pub slot_used : entry_word env x 0 ≡ 1 → environment_of env x ≡ used
  unfolding environment_of slot_as
  slot_used e = rw e refl

  pub entry_free : entry_word env x 0 ≡ 0 → entry_at env x ≡ entry.Free
  unfolding entry_at
  entry_free e = rw e refl

  pub entry_used : entry_word env x 0 ≡ 1 → entry_at env x ≡ entry.Used
  unfolding entry_at
  entry_used e = rw e refl

  pub entry_live : 2 ≤ entry_word env x 0 → entry_at env x ≡ entry.Live (state_at env x)
  unfolding entry_at
  entry_live h = rw (ne_eqb (entry_word env x 0) 0 (omega arith), ne_eqb (entry_word env x 0) 1 (omega arith)) refl

  pub not_live : entry_word env x 0 < 2 → (environment_of env x ≡ free) ⊎ (environment_of env x ≡ used)
  not_live h = go (ℕ_discrete (entry_word env x 0) 0)
    where
      go : Dec (entry_word env x 0 ≡ 0) → (environment_of env x ≡ free) ⊎ (environment_of env x ≡ used)
      go (yes e) = inl (slot_free e)
      go (no e) = inr (slot_used (omega arith))

  pub free_test : eqb (entry_word env x 0) 0 ≡ is_free (environment_of env x)
  unfolding is_free
  free_test = go (ℕ_discrete (entry_word env x 0) 0) (dec_lt (entry_word env x 0) 2)
    where
      go : Dec (entry_word env x 0 ≡ 0) → Dec (entry_word env x 0 < 2) → eqb (entry_word env x 0) 0 ≡ is_free (environment_of env x)
      go (yes e) d = eq-eqb (entry_word env x 0) 0 e ∙ ap is_free (sym (slot_free e))
      go (no e) (yes d) = ne_eqb (entry_word env x 0) 0 e ∙ ap is_free (sym (slot_used (omega arith)))
      go (no e) (no d) = ne_eqb (entry_word env x 0) 0 e ∙ ap is_free (sym (status_live env x (omega arith)))

  pub level_live : 2 ≤ entry_word env x 0 → level_of (environment_of env x) ≡ entry_word env x 5
  unfolding level_of
  level_live h = ap level_of (status_live env x h)

  pub level_not_live : entry_word env x 0 < 2 → level_of (environment_of env x) ≡ 0
  unfolding level_of
  level_not_live h = ⊎_elim (λ e. ap level_of e) (λ e. ap level_of e) (not_live h)

-- A number that the table does not have is free.
pub past_status : (env : List Row) (n : ℕ) → TableFor env n → (x : ℕ) → n ≤ x → entry_word env x 0 ≡ 0
past_status env n T x h = T.2.untaken x (omega (arith, T.2.most))

-- ---- words that no rule looks at

-- The borrow end depends on its links, its roots, and how long the variables are; these stay.
pub kept_end : (env env' : List Row) → SameLinks env env' → (ks : List Link) (s : Roots) → end_in env' ks s ≡ end_in env ks s
kept_end env env' L ks s =
    ap (borrow_end ks) (same_roots 128 (has s) (has s) (long_at env') (long_at env) _ (λ y. refl) (λ y h. ap (λ (l : ℕ). length (chain_of l)) (L y)))

-- What a number is stands in six of its words, and in the lengths of chains.
pub same_slot : (env env' : List Row) → SameLinks env env' → (x y : ℕ)
    → entry_word env' y 0 ≡ entry_word env x 0 → links_at env' y ≡ links_at env x → entry_word env' y 4 ≡ entry_word env x 4
    → roots_at env' y ≡ roots_at env x → entry_word env' y 5 ≡ entry_word env x 5 → environment_of env' y ≡ environment_of env x
unfolding environment_of
same_slot env env' L x y a b c d e =
    ap₂ slot_as a
    (ap (λ (l : ℕ). variable_of env' l (entry_word env' y 4) (roots_at env' y) (entry_word env' y 5)) b
    ∙ ap (λ (m : ℕ). variable_of env' (links_at env x) m (roots_at env' y) (entry_word env' y 5)) c
    ∙ ap (λ (s : Roots). variable_of env' (links_at env x) (entry_word env x 4) s (entry_word env' y 5)) d
    ∙ ap (λ (l : ℕ). variable_of env' (links_at env x) (entry_word env x 4) (roots_at env x) l) e
    ∙ ap (λ b. record { chain = chain_of (links_at env x); moved_from = entry_word env x 4; borrow = b; level = entry_word env x 5 }) (kept_end env env' L (chain_of (links_at env x)) (roots_at env x)))

-- The words of a number's entry, all but the notes.
abbrev pub SameEntry : List Row → List Row → ℕ → Type 0
SameEntry env env' y = (k : ℕ) → k < 8 → (k ≡ 3 → ⊥) → (k ≡ 7 → ⊥) → entry_word env' y k ≡ entry_word env y k

-- ---- a test

pub pick_true : (a : Bool) → pick a true false ≡ a
pick_true true = refl
pick_true false = refl
