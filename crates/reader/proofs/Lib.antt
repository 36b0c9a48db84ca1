-- The theorems on reading, judging, measuring and writing scripts.
pub mod ReadLaws
pub mod OutputTrees
pub mod OutputAnswers
pub mod WriteRefused
pub mod Undo
pub mod WritingLength
pub mod MoreAnswers
pub mod RowsJudged
pub mod Promise
