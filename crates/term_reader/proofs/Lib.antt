-- Laws on terms and blocks in bytes.
pub mod Refusals
pub mod LoopLaws
pub mod BranchLoop
pub mod KindGroups
pub mod TermLoop
pub mod DueBlockBytes
