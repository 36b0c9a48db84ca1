-- `writer::output::put_row_bytes` meets its contract: each arm is a case of what a row of its kinds gives. Assumes nothing.
use Rattle.writer.specs.OutputParts.{bytes_at}
use Rattle.writer.proofs.OutputLaws.{word_bytes, one_bytes, none_bytes, places_bytes, place_bytes, other_bytes}
use Rattle.writer.proofs.output.put_row_bytes.Goals as goal

pub put-requires : goal.put-requires
unfolding bytes_at
put-requires c = rw (other_bytes _ _ _ _ _ c.in_default.ensures) at c.requires.1

pub put-requires-in-Number : goal.put-requires-in-Number
unfolding bytes_at
put-requires-in-Number c = rw (word_bytes _ _ _ _ _ _ c.in-Ok.ensures c.in-Number.is) at c.requires.1

pub put-requires-in-Reading : goal.put-requires-in-Reading
unfolding bytes_at
put-requires-in-Reading c = rw (one_bytes _ _ _ _ _ _ c.in-Ok.ensures c.in-Reading.is) at c.requires.1

pub put-requires-in-Box : goal.put-requires-in-Box
unfolding bytes_at
put-requires-in-Box c = rw (none_bytes _ _ _ _ _ _ c.in-Ok.ensures c.in-Box.is) at c.requires.1

pub put-requires-in-Below : goal.put-requires-in-Below
unfolding bytes_at
put-requires-in-Below c = rw (places_bytes _ _ _ _ _ _ c.in-Ok.ensures c.in-Below.is) at c.requires.1

pub put-requires-in_default-kind : goal.put-requires-in_default-kind
unfolding bytes_at
put-requires-in_default-kind c =
    let o = c.in_default-kind in
    rw (place_bytes _ _ _ _ _ _ c.in-Ok.ensures o.not-Number o.not-Below o.not-Sum o.not-Reading o.not-Let o.not-Block o.not-Box) at c.requires.1

pub returns-in_default : goal.returns-in_default
unfolding bytes_at
returns-in_default c = rw (other_bytes _ _ _ _ _ c.in_default.ensures) (c.put.ensures.0, cc)

pub returns-in-Number : goal.returns-in-Number
unfolding bytes_at
returns-in-Number c = rw (word_bytes _ _ _ _ _ _ c.in-Ok.ensures c.in-Number.is) (c.put-in-Number.ensures.0, rw (c.byte_at-kind_byte.ensures, c.to_be_bytes.ensures) at c.put-in-Number.ensures.1)

pub returns-in-Reading : goal.returns-in-Reading
unfolding bytes_at
returns-in-Reading c = rw (one_bytes _ _ _ _ _ _ c.in-Ok.ensures c.in-Reading.is) (c.put-in-Reading.ensures.0, cc)

pub returns-in-Box : goal.returns-in-Box
unfolding bytes_at
returns-in-Box c = rw (none_bytes _ _ _ _ _ _ c.in-Ok.ensures c.in-Box.is) (c.put-in-Box.ensures.0, cc)

pub returns-in-Below : goal.returns-in-Below
unfolding bytes_at
returns-in-Below c = rw (places_bytes _ _ _ _ _ _ c.in-Ok.ensures c.in-Below.is) (c.put-in-Below.ensures.0, cc)

pub returns-in_default-kind : goal.returns-in_default-kind
unfolding bytes_at
returns-in_default-kind c =
    let o = c.in_default-kind in
    rw (place_bytes _ _ _ _ _ _ c.in-Ok.ensures o.not-Number o.not-Below o.not-Sum o.not-Reading o.not-Let o.not-Block o.not-Box) (c.put-in_default-kind.ensures.0, cc)
