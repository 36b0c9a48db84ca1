-- The proof that accepted scripts run safely.

-- The examples.
pub mod ExampleTable
-- What the layers share.
pub mod EndNumbers
-- The memory layer: names own chains of cells. No types in it.
pub mod Memory
pub mod NameMaps
pub mod Lifted
pub mod Transfer
pub mod Naming
pub mod OneName
pub mod Pop
pub mod Push
pub mod Dropping
-- The typing layer, over an environment with one place for each borrow.
pub mod Ghost
pub mod Typing
pub mod Chains
pub mod Paths
pub mod OnPath
pub mod Frames
pub mod Handing
pub mod Writing
pub mod Fading
-- What is asked of the judge: certificates, and that its environment covers the proof's, which knows what some of the names hold.
pub mod Known
pub mod Certificates
pub mod Covering
pub mod Widening
pub mod Inversion
-- The invariant, and where places lead.
pub mod Invariant
pub mod Settling
pub mod Finding
pub mod Following
pub mod Progress
pub mod Wider
-- The terms: conditions give the result, and the judge gives the conditions.
pub mod Lending
pub mod NewValue
pub mod Numbers
pub mod Borrowing
pub mod Copying
pub mod InFlight
pub mod OneChanged
pub mod Moving
pub mod Boxing
pub mod Letting
pub mod Assigning
pub mod WriteJudged
pub mod AssignJudged
pub mod Emptying
pub mod Forgetting
pub mod Closing
pub mod Leaving
pub mod BlockEnd
pub mod Joining
-- All terms, and the whole script.
pub mod Soundness
pub mod Start
pub mod ScriptEnd
pub mod Demand3
-- Larger sets of limits.
pub mod Larger
-- The numbers of the author's refusals, and those of faults.
pub mod RefusalNumbers
pub mod FaultNumbers
