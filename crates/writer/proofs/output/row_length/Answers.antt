-- `writer::output::row_length` meets its contract: each arm is a case of what a row of its kinds gives. Assumes nothing.
use native.Mathlib.Omega.{arith}
use mathlib.Core.Path.{ap}
use lib.ListN.{length}
use Rattle.writer.proofs.OutputLaws.{five_bytes, one_bytes, none_bytes, place_bytes, other_bytes}
use Rattle.writer.proofs.output.row_length.Goals as goal

pub returns-in_default : goal.returns-in_default
returns-in_default c = (λ a b x d. ap length (other_bytes _ a b x d c.in_default.ensures), omega arith)

pub returns-in-Number : goal.returns-in-Number
returns-in-Number c = (λ a b x d. five_bytes _ _ a b x d c.in-Ok.ensures c.in-Number.is, omega arith)

pub returns-in-Reading : goal.returns-in-Reading
returns-in-Reading c = (λ a b x d. ap length (one_bytes _ _ a b x d c.in-Ok.ensures c.in-Reading.is), omega arith)

pub returns-in-Box : goal.returns-in-Box
returns-in-Box c = (λ a b x d. ap length (none_bytes _ _ a b x d c.in-Ok.ensures c.in-Box.is), omega arith)

pub returns-in_default-kind : goal.returns-in_default-kind
returns-in_default-kind c =
    let o = c.in_default-kind in
    (λ a b x d. ap length (place_bytes _ _ a b x d c.in-Ok.ensures o.not-Number o.not-Below o.not-Sum o.not-Reading o.not-Let o.not-Block o.not-Box), omega arith)
