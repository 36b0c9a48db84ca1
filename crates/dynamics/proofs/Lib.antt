-- The theorems on runs. They are about the definitions of specs/ alone.
pub mod Apart
pub mod StoreLaws
pub mod EncodeLaws
pub mod CellCounts
pub mod DropLaws
pub mod Kept
pub mod RunOrder
pub mod Counting
pub mod FaultLaws
pub mod SignedLaws
pub mod JudgedRows
