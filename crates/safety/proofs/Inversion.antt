-- What the judge's answers say.
use Prim.Native.Nat.{ℕ, suc, ◌≤◌, ◌<◌}
use native.Mathlib.Omega.{arith}
use mathlib.Core.Path.{◌≡◌, refl, sym, ap, ◌∙◌}
use mathlib.Core.Logic.{◌≢◌}
use mathlib.Core.Bool.{Bool, true, false, false≢true, not}
use mathlib.Core.List.{List, [], ◌∷◌}
use lib.Dec.{leb, ltb}
use borrow.Author.Tests.{leb-true, leb-false, not-true, lt-ltb}
use Rattle.syntax.specs.Result.{ok, need, pick}
use Rattle.syntax.specs.Script.{Place}
use Rattle.statics.specs.Links.{Link, leading_boxes, is_number}
use Rattle.statics.specs.Environment.{Borrow, no_borrow, shared_of, exclusive_of, places, Variable, Slot, live, Environment, level_of, lives_at, holding}
use Rattle.statics.specs.Follow.{value_whole}
use Rattle.statics.specs.Uses.{Unfinished}
use Rattle.statics.specs.Bars.{borrows_any, borrows_exclusive, held_by, in_use, read_barred, write_barred}
use Rattle.statics.specs.Rules.{Located, judge_place, judge_readable}
use Rattle.statics.specs.Neat.{Among}
use Rattle.statics.proofs.InUse.{held_not}
use Rattle.statics.proofs.SetLaws.{every_in, rooted_in, rooted_not}
use Rattle.syntax.proofs.Answers.{then, needed}
use Rattle.safety.proofs.Covering.{exclusive_in}

-- ---- who holds what

held_live : (h : Borrow → ℕ → Bool) (v : Variable) (x : ℕ) → held_by h (live v) x ≡ false → leading_boxes v.chain < v.moved_from
    → h v.borrow x ≡ false
unfolding held_by holding
held_live h v x e l = go (ltb (leading_boxes v.chain) v.moved_from) refl e
  where
    go : (b : Bool) → ltb (leading_boxes v.chain) v.moved_from ≡ b → pick b (h v.borrow x) false ≡ false → h v.borrow x ≡ false
    go true k e' = e'
    go false k e' = absurd (let z = leb-false (suc (leading_boxes v.chain)) v.moved_from k in omega arith)

any_not : (b : Borrow) (p : Place) (x : ℕ) → borrows_any b x ≡ false → Among p (places b) → p.root ≢ x
unfolding borrows_any
any_not b p x h i = rooted_not p (places b) x h i

exclusive_not : (b : Borrow) (p : Place) (x : ℕ) → borrows_exclusive b x ≡ false → Among p (places b) → exclusive_in b ≡ true → p.root ≢ x
unfolding borrows_exclusive
exclusive_not no_borrow p x h i e = absurd (false≢true e)
exclusive_not (shared_of ps) p x h i e = absurd (false≢true e)
exclusive_not (exclusive_of ps) p x h i e = rooted_not p ps x h i

-- Writing x is not barred: no variable in use holds a place with that root. Reading it is not: none in use holds one exclusively.
pub write_allowed : (nv : ℕ) (ns : Unfinished) (Γ : Environment) (x y : ℕ) (v : Variable) (p : Place) → write_barred nv ns Γ x ≡ false → y < nv
    → in_use nv ns Γ y ≡ true → Γ y ≡ live v → leading_boxes v.chain < v.moved_from → Among p (places v.borrow) → p.root ≢ x
write_allowed nv ns Γ x y v p h l u e g f =
    any_not v.borrow p x (held_live borrows_any v x (ap (λ (k : Slot). held_by borrows_any k x) (sym e) ∙ held_not borrows_any (in_use nv ns Γ) Γ x nv y h l u) g) f

pub read_allowed : (nv : ℕ) (ns : Unfinished) (Γ : Environment) (x y : ℕ) (v : Variable) (p : Place) → read_barred nv ns Γ x ≡ false → y < nv
    → in_use nv ns Γ y ≡ true → Γ y ≡ live v → leading_boxes v.chain < v.moved_from → Among p (places v.borrow) → exclusive_in v.borrow ≡ true
    → p.root ≢ x
read_allowed nv ns Γ x y v p h l u e g f i =
    exclusive_not v.borrow p x (held_live borrows_exclusive v x (ap (λ (k : Slot). held_by borrows_exclusive k x) (sym e) ∙ held_not borrows_exclusive (in_use nv ns Γ) Γ x nv y h l u) g) f i

-- What a variable holds, the judge counts.
pub is_held : (Γ : Environment) (y : ℕ) (v : Variable) (p : Place) → Γ y ≡ live v → leading_boxes v.chain < v.moved_from → Among p (places v.borrow)
    → held_by borrows_any (Γ y) p.root ≡ true
unfolding held_by holding borrows_any
is_held Γ y v p e g i = rw (e, lt-ltb (leading_boxes v.chain) v.moved_from g) (rooted_in p (places v.borrow) i)

-- Every root borrowed lives there or further out.
pub level_in : (Γ : Environment) (b : Borrow) (l : ℕ) (p : Place) → lives_at Γ b l ≡ true → Among p (places b) → level_of (Γ p.root) ≤ l
unfolding lives_at
level_in Γ b l p h i = leb-true _ _ (every_in (λ p. leb (level_of (Γ p.root)) l) p (places b) h i)

pub number_nil : (ks : List Link) → is_number ks ≡ true → ks ≡ []
unfolding is_number
number_nil [] h = refl
number_nil (k ∷ ks) h = absurd (false≢true h)

pub readable_ok : (nv : ℕ) (ns : Unfinished) (Γ : Environment) (i : ℕ) (p : Place) (l : Located) → judge_readable nv ns Γ i p ≡ ok l
    → (judge_place nv Γ i p ≡ ok l) × (value_whole nv Γ p.root l.root ≡ true) × (read_barred nv ns Γ p.root ≡ false)
unfolding judge_readable
readable_ok nv ns Γ i p l h =
    let a = then (judge_place nv Γ i p) _ l h in
    let b = then (need (value_whole nv Γ p.root a.0.root) (33, i)) _ l a.2 in
    let c = then (need (not (read_barred nv ns Γ p.root)) (34, i)) _ l b.2 in
    let e : a.0 ≡ l = let z = c.2 in cc in
    (a.1 ∙ ap ok e, rw (← e) (needed _ _ _ b.1), not-true _ (needed _ _ _ c.1))
