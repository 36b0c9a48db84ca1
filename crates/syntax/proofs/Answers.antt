-- Steps that answer or refuse: what the answer of a chain says of its steps, and what a chain answers from what its steps answer.
use Prim.Native.Nat.{ℕ}
use native.Mathlib.Omega.{arith}
use mathlib.Core.Path.{◌≡◌, refl, sym, ap}
use mathlib.Core.Logic.{◌⊎◌, inl, inr}
use mathlib.Core.Bool.{Bool, true, false}
use Rattle.syntax.specs.Result.{Result, ok, err, need, Refusal, ◌>>=◌ as ◌&◌}
use Rattle.syntax.specs.Reader.{Cursor, Reads, ◌>>=◌, done}

pub err_ok : {E A : Type 0} {e : E} {a : A} {B : Type 0} → ◌≡◌ {A = Result E A} (err e) (ok a) → B
err_ok q = let z : ◌≡◌ {A = ℕ} 0 1 = cc in absurd (omega arith)

-- Results: `then` reads an answer back, `halts` a refusal; `after` and `stop` compute.
pub then : {E A B : Type 0} (m : Result E A) (f : A → Result E B) (b : B) → (◌&◌ m f) ≡ ok b → (a : A) × (m ≡ ok a) × (f a ≡ ok b)
unfolding ◌&◌
then (ok a) f b h = (a, refl, h)
then (err e) f b h = err_ok h

pub halts : {E A B : Type 0} (m : Result E A) (f : A → Result E B) (e : E) → (◌&◌ m f) ≡ err e → (m ≡ err e) ⊎ ((a : A) × (m ≡ ok a) × (f a ≡ err e))
unfolding ◌&◌
halts (ok a) f e h = inr (a, refl, h)
halts (err x) f e h = let z : x ≡ e = cc in inl (ap err z)

-- What only makes another answer of the first one refuses nothing.
pub halts_first : {E A B : Type 0} (m : Result E A) (f : A → B) (e : E) → (◌&◌ m (λ a. ok (f a))) ≡ err e → m ≡ err e
unfolding ◌&◌
halts_first (ok a) f e h = err_ok (sym h)
halts_first (err x) f e h = let z : x ≡ e = cc in ap err z

pub after : {E A B : Type 0} (m : Result E A) (f : A → Result E B) (a : A) (b : Result E B) → m ≡ ok a → f a ≡ b → (◌&◌ m f) ≡ b
unfolding ◌&◌
after m f a b e h = rw e h

pub stop : {E A B : Type 0} (m : Result E A) (f : A → Result E B) (e : E) → m ≡ err e → (◌&◌ m f) ≡ err e
unfolding ◌&◌
stop m f e h = rw h

pub needed : {E : Type 0} (b : Bool) (e : E) (u : Unit {0}) → need b e ≡ ok u → b ≡ true
unfolding need
needed true e u h = refl
needed false e u h = err_ok h

pub need_ok : {E : Type 0} (b : Bool) (e : E) → b ≡ true → need b e ≡ ok tt
unfolding need
need_ok b e h = rw h

pub need_err : {E : Type 0} (b : Bool) (e : E) → b ≡ false → need b e ≡ err e
unfolding need
need_err b e h = rw h

-- Readers: the same three, with the cursor.
pub ran : {A B : Type 0} (m : Reads A) (f : A → Reads B) (s : Cursor) (r : B × Cursor) → (m >>= f) s ≡ ok r → (a : A) × (s' : Cursor) × (m s ≡ ok (a, s')) × (f a s' ≡ ok r)
unfolding ◌>>=◌
ran m f s r h =
    let q = then (m s) (λ r. f r.0 r.1) r h in
    (q.0.0, q.0.1, q.1, q.2)

pub go_on : {A B : Type 0} (m : Reads A) (f : A → Reads B) (s s' : Cursor) (a : A) (r : Result Refusal (B × Cursor)) → m s ≡ ok (a, s') → f a s' ≡ r → (m >>= f) s ≡ r
unfolding ◌>>=◌
go_on m f s s' a r e h = after (m s) (λ r. f r.0 r.1) (a, s') r e h

pub stops : {A B : Type 0} (m : Reads A) (f : A → Reads B) (s : Cursor) (e : Refusal) → m s ≡ err e → (m >>= f) s ≡ err e
unfolding ◌>>=◌
stops m f s e h = stop (m s) (λ r. f r.0 r.1) e h

-- One answer is one value and one cursor.
pub same : {A : Type 0} {a b : A} {s s' : Cursor} → ◌≡◌ {A = Result Refusal (A × Cursor)} (ok (a, s)) (ok (b, s')) → (a ≡ b) × (s ≡ s')
same {A} {a} {b} {s} {s'} e =
    let z : ◌≡◌ {A = A × Cursor} (a, s) (b, s') = cc in
    (ap (λ (k : A × Cursor). k.0) z, ap (λ (k : A × Cursor). k.1) z)

pub is_done : {A : Type 0} (a b : A) (s s' : Cursor) → done a s ≡ ok (b, s') → (a ≡ b) × (s ≡ s')
unfolding done
is_done a b s s' h = same h
