-- `script_reader::script::clear_from` meets its contract. Assumes nothing.
use Prim.Native.Nat.{ℕ, ◌-◌, ◌≤◌}
use borrow.Rule.Slice.PartMut.{put_mid}
use native.Mathlib.Omega.{arith}
use mathlib.Core.Path.{◌≡◌, sym, ap, ap₂, ◌∙◌}
use mathlib.Core.List.{List, ◌++◌, append-nil}
use lib.ListN.{length, take, replicate, length-drop, drop_of_length-le, take-append-drop}
use Rattle.std.proofs.lemmas.Slice.{take-put_mid, drop-put_mid}
use Rattle.syntax.specs.Layout.{zeros}
use Rattle.syntax.proofs.Lists.{part_all}
use Rattle.script_reader.proofs.script.clear_from.Goals as goal

-- What is written to the end of a list.
to_the_end : (l ys : List ℕ) (from : ℕ) → from ≤ length l → length ys ≡ length l - from → put_mid from (length l - from) l ys ≡ take from l ++ ys
to_the_end l ys from h e =
    let k = length l - from in
    let n = length l in
    sym (take-append-drop n (put_mid from k l ys))
    ∙ ap₂ (λ (x y : List ℕ). x ++ y) (take-put_mid from k l ys n (omega arith) h) (drop-put_mid from k l ys n (omega arith) h e ∙ drop_of_length-le l (omega arith))
    ∙ append-nil (take from l ++ ys)

pub returns : goal.returns
unfolding zeros
returns c =
    let e : c.fill.new.self ≡ replicate (length c.args.rows.now - c.args.from) 0 = c.fill.ensures.after (λ y h. h) ∙ ap (λ (n : ℕ). replicate n 0) (ap length (part_all c.args.rows.now c.args.from) ∙ length-drop c.args.from c.args.rows.now) in
    to_the_end c.args.rows.now c.fill.new.self c.args.from c.requires (c.fill.ensures.len ∙ ap length (part_all c.args.rows.now c.args.from) ∙ length-drop c.args.from c.args.rows.now) ∙ ap (λ (z : List ℕ). take c.args.from c.args.rows.now ++ z) e
