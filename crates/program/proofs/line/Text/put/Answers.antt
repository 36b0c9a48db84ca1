use native.Mathlib.Omega.{arith}
use mathlib.Core.Path.{◌≡◌, refl}
use borrow.Author.Rules.{rules}
use lib.ListN.{length}
use lib.Seq.{length-take-le}
use Rattle.program.specs.Line.{in_front}
use Rattle.program.specs.Texts.{text_in}
use Rattle.program.proofs.line.Text.put.Goals as goal

pub returns-clause-put : goal.returns-clause-put
unfolding in_front
returns-clause-put c =
    let l : length c.args.self.now.bytes ≡ 80 = search rules in
    let n : length (text_in c.args.self.now) ≡ c.args.self.now.length = length-take-le _ _ (omega arith) in
    rw (n, c.copy_from_slice.ensures.after) refl
