-- Laws on terms and blocks.
pub mod TreeLets
pub mod TreeStates
pub mod InwardsLaws
pub mod BlockTerm
pub mod ScopeLaws
pub mod ChoiceValues
pub mod BranchLaws
pub mod BlockLaws
pub mod ScriptLaws
pub mod TableStart
