-- Laws on the table's words.
pub mod QuestionLaws
pub mod ChainLaws
pub mod EqualChains
pub mod MaskLaws
pub mod MemberLaws
pub mod EntryLaws
pub mod TableLaws
pub mod EndLaws
pub mod WordLaws
pub mod EndRoots
