-- A map on names with one name changed.
use mathlib.Core.Path.{◌≡◌, refl}
use mathlib.Core.Logic.{◌≢◌}
use Rattle.statics.proofs.Choose.{choose, choose_yes, choose_no}
use Rattle.safety.proofs.Memory.{Name, name_dec}

pub upd : {A : Type 0} → (Name → A) → Name → A → Name → A
upd f b a z = choose (name_dec z b) a (f z)

pub upd_same : {A : Type 0} (f : Name → A) (b : Name) (a : A) → upd f b a b ≡ a
unfolding upd
upd_same f b a = choose_yes (name_dec b b) a (f b) refl

pub upd_other : {A : Type 0} (f : Name → A) (b : Name) (a : A) (z : Name) → z ≢ b → upd f b a z ≡ f z
unfolding upd
upd_other f b a z n = choose_no (name_dec z b) a (f z) n
