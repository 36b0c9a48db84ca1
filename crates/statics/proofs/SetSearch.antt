-- A search over sets of numbers: what its loop keeps, and what a round does to the sets. Assumes nothing.
use Prim.Native.Nat.{ℕ, suc, ◌<◌}
use native.Mathlib.Omega.{arith}
use mathlib.Core.Path.{◌≡◌, refl, sym, ap, ap₂, ◌∙◌, fun_ext}
use mathlib.Core.Bool.{Bool, true, false, false≢true, true≢false}
use lib.Dec.{eqb}
use borrow.Author.Tests.{eqb-true}
use Rattle.syntax.specs.Result.{pick}
use Rattle.statics.proofs.ClosureLoop.{Meeting, met_after, todo_after, round, count, waiting, one_fewer}

-- What is met so far. Of that, all but what is still to do passes; `own` is what the search looks for, and `ends` has those of it that are met and
-- no longer to do.
pub record Search (first : ℕ → Bool) (leads : ℕ → ℕ → Bool) (pass own met todo ends : ℕ → Bool) : Type 0 where
  pub meeting : Meeting first leads met todo
  pub passed : (y : ℕ) → met y ≡ true → todo y ≡ false → pass y ≡ true
  pub ended : (y : ℕ) → ends y ≡ pick (met y) (pick (todo y) false (own y)) false

-- One that counts is added, and one that does not is left out.
pub so_far : (b o : Bool) → o ≡ true → b ≡ pick b o false
so_far true o e = sym e
so_far false o e = refl

pub no_more : (a b o : Bool) → o ≡ false → a ≡ pick a true (pick b o false)
no_more true b o e = refl
no_more false true o e = sym e
no_more false false o e = refl

module _ (first : ℕ → Bool) (leads : ℕ → ℕ → Bool) (pass own : ℕ → Bool) where
  pub search_begins : (met ends : ℕ → Bool) → ((y : ℕ) → met y ≡ first y) → ((y : ℕ) → ends y ≡ false) → Search first leads pass own met met ends
  search_begins met ends e z = record {
    meeting = record {
      start = λ x h. e x ∙ h;
      inside = λ y h. h;
      added = λ y w h k l. absurd (true≢false (sym h ∙ k));
      least = λ s a b y h. a y (sym (e y) ∙ h);
    };
    passed = λ y h k. absurd (true≢false (sym h ∙ k));
    ended = λ y. z y ∙ go (met y) (own y);
  }
    where
      go : (b c : Bool) → false ≡ pick b (pick b false c) false
      go true c = refl
      go false c = refl

  module _ (met todo ends : ℕ → Bool) (S : Search first leads pass own met todo ends) (x : ℕ) (h : todo x ≡ true) where
    module _ (met' todo' : ℕ → Bool) (me : (z : ℕ) → met' z ≡ met_after leads x met z) (te : (z : ℕ) → todo' z ≡ todo_after leads x met todo z) where
      -- The number x has been looked at: it passes, and comes into `ends` if it is `own`.
      pub search_round : (ends' : ℕ → Bool) → pass x ≡ true → ((y : ℕ) → ends' y ≡ pick (ends y) true (pick (eqb x y) (own x) false)) → Search first leads pass own met' todo' ends'
      search_round ends' p ee = record {
        meeting = round first leads met todo S.meeting x h met' todo' me te;
        passed = λ y a b. pass_y y (met y) (todo y) (eqb x y) (leads x y) refl refl refl (sym (me y) ∙ a) (sym (te y) ∙ b);
        ended = λ y. ee y ∙ ap (λ (b : Bool). pick b true (pick (eqb x y) (own x) false)) (S.ended y)
            ∙ end_y y (met y) (todo y) (eqb x y) (leads x y) refl refl refl
            ∙ ap₂ (λ (b c : Bool). pick b (pick c false (own y)) false) (sym (me y)) (sym (te y));
      }
        where
          pass_y : (y : ℕ) (b t q l : Bool) → met y ≡ b → todo y ≡ t → eqb x y ≡ q → pick b true l ≡ true → pick b (pick q false t) l ≡ false → pass y ≡ true
          pass_y y b t true l e f g i j = ap pass (sym (eqb-true x y g)) ∙ p
          pass_y y true true false l e f g i j = absurd (true≢false j)
          pass_y y true false false l e f g i j = S.passed y e f
          pass_y y false t false true e f g i j = absurd (true≢false j)
          pass_y y false t false false e f g i j = absurd (false≢true i)

          at_x : (y : ℕ) (b t l : Bool) → b ≡ true → t ≡ true → own x ≡ own y → pick (pick b (pick t false (own y)) false) true (own x) ≡ pick (pick b true l) (pick (pick b false l) false (own y)) false
          at_x y true true l e f g = g
          at_x y true false l e f g = absurd (false≢true f)
          at_x y false t l e f g = absurd (false≢true e)

          other : (b t l o : Bool) → pick (pick b (pick t false o) false) true false ≡ pick (pick b true l) (pick (pick b t l) false o) false
          other true true l o = refl
          other true false l true = refl
          other true false l false = refl
          other false t true o = refl
          other false t false o = refl

          end_y : (y : ℕ) (b t q l : Bool) → met y ≡ b → todo y ≡ t → eqb x y ≡ q
              → pick (pick b (pick t false (own y)) false) true (pick q (own x) false) ≡ pick (pick b true l) (pick (pick b (pick q false t) l) false (own y)) false
          end_y y b t true l e f g =
              let z = eqb-true x y g in
              at_x y b t l (sym e ∙ ap met (sym z) ∙ S.meeting.inside x h) (sym f ∙ ap todo (sym z) ∙ h) (ap own z)
          end_y y b t false l e f g = other b t l (own y)

      -- One fewer is waiting.
      pub search_less : (n : ℕ) → x < n → count (waiting met todo) n ≡ suc (count (waiting met' todo') n)
      search_less n l =
          one_fewer leads n met todo x l h (S.meeting.inside x h)
          ∙ ap₂ (λ (f g : ℕ → Bool). suc (count (waiting f g) n)) (sym (fun_ext me)) (sym (fun_ext te))

    -- The sets after x in the code: nothing new if it leads nowhere.
    module _ (todo₁ : ℕ → Bool) (e : (z : ℕ) → todo₁ z ≡ pick (eqb x z) false (todo z)) where
      -- What is not met is not to be done.
      unmet : (z : ℕ) → met z ≡ false → todo z ≡ false
      unmet z k = go (todo z) refl
        where
          go : (b : Bool) → todo z ≡ b → b ≡ false
          go true f = absurd (true≢false (sym (S.meeting.inside z f) ∙ k))
          go false f = refl

      module _ (none : (z : ℕ) → leads x z ≡ false) where
        pub here_met : (z : ℕ) → met z ≡ met_after leads x met z
        here_met z = go (met z) ∙ ap (λ (l : Bool). pick (met z) true l) (sym (none z))
          where
            go : (b : Bool) → b ≡ pick b true false
            go true = refl
            go false = refl

        pub here_todo : (z : ℕ) → todo₁ z ≡ todo_after leads x met todo z
        here_todo z = e z ∙ go (met z) refl (eqb x z) ∙ ap (λ (l : Bool). pick (met z) (pick (eqb x z) false (todo z)) l) (sym (none z))
          where
            off : (t q : Bool) → t ≡ false → pick q false t ≡ false
            off t true k = refl
            off t false k = k

            go : (b : Bool) → met z ≡ b → (q : Bool) → pick q false (todo z) ≡ pick b (pick q false (todo z)) false
            go true k q = refl
            go false k q = off (todo z) q (unmet z k)

      module _ (new : ℕ → Bool) (some : (z : ℕ) → leads x z ≡ new z) (more : ℕ → Bool) (me : (z : ℕ) → more z ≡ pick (met z) false (new z)) where
        through_met : (met' : ℕ → Bool) → ((z : ℕ) → met' z ≡ pick (met z) true (more z)) → (z : ℕ) → met' z ≡ met_after leads x met z
        through_met met' q z = q z ∙ ap (λ (b : Bool). pick (met z) true b) (me z) ∙ go (met z) (new z) ∙ ap (λ (l : Bool). pick (met z) true l) (sym (some z))
          where
            go : (b l : Bool) → pick b true (pick b false l) ≡ pick b true l
            go true l = refl
            go false l = refl

        through_todo : (todo' : ℕ → Bool) → ((z : ℕ) → todo' z ≡ pick (todo₁ z) true (more z)) → (z : ℕ) → todo' z ≡ todo_after leads x met todo z
        through_todo todo' q z =
            q z ∙ ap₂ (λ (a b : Bool). pick a true b) (e z) (me z) ∙ go (met z) refl (eqb x z) (new z) ∙ ap (λ (l : Bool). pick (met z) (pick (eqb x z) false (todo z)) l) (sym (some z))
          where
            same : (b : Bool) → pick b true false ≡ b
            same true = refl
            same false = refl

            off : (t p l : Bool) → t ≡ false → pick (pick p false t) true l ≡ l
            off t true l k = refl
            off true false l k = absurd (true≢false k)
            off false false l k = refl

            go : (b : Bool) → met z ≡ b → (p l : Bool) → pick (pick p false (todo z)) true (pick b false l) ≡ pick b (pick p false (todo z)) l
            go true k p l = same (pick p false (todo z))
            go false k p l = off (todo z) p l (unmet z k)

        -- One round with such sets: what is kept, and fewer are waiting.
        module _ (met' todo' ends' : ℕ → Bool) (met-is : (z : ℕ) → met' z ≡ pick (met z) true (more z)) (todo-is : (z : ℕ) → todo' z ≡ pick (todo₁ z) true (more z)) where
          pub search_next : pass x ≡ true → ((y : ℕ) → ends' y ≡ pick (ends y) true (pick (eqb x y) (own x) false)) → (n : ℕ) → x < n
              → Search first leads pass own met' todo' ends' × (count (waiting met' todo') n < count (waiting met todo) n)
          search_next p ee n l =
              let z = search_less met' todo' (through_met met' met-is) (through_todo todo' todo-is) n l in
              (search_round met' todo' (through_met met' met-is) (through_todo todo' todo-is) ends' p ee, omega (arith, z))
