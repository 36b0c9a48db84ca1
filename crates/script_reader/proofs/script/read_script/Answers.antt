-- `script_reader::script::read_script` meets its contract. All that the proof knows of the four callees is that each meets its contract; what
-- their answers are together is `WholeLaws`' `whole_moved`. Assumes nothing.
use mathlib.Core.Path.{ap}
use Rattle.script_reader.specs.declared.reader.Reader.{Reader}
use Rattle.script_reader.proofs.WholeLaws.{lead_inside, whole_moved, ends_told}
use Rattle.script_reader.proofs.script.read_script.Goals as goal

pub read_outermost-outermost-requires : goal.read_outermost-outermost-requires
read_outermost-outermost-requires c =
    let lead = rw c.new-reader.ensures at c.read_lead-lead.ensures in
    rw lead.moved (lead_inside _ _ lead.read.0 c.requires.0, c.requires.1)

pub returns : goal.returns
returns c =
    let lead = rw c.new-reader.ensures at c.read_lead-lead.ensures in
    let outer = c.read_outermost-outermost.ensures in
    ends_told _ _ _ lead.read.1 _ _ _ _ (whole_moved _ _ _ lead.read.1 _ _ _ _ _ _ _ _ _ lead.read.0
    (ap (λ (r : Reader). r.script.now) lead.moved) (ap (λ (r : Reader). r.at) lead.moved) outer.read
    (ap (λ (r : Reader). r.script.now) outer.moved) (ap (λ (r : Reader). r.at) outer.moved) c.read_end.ensures)
