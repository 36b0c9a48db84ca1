-- Laws on terms and blocks.
pub mod TermLaws
pub mod ChoiceLaws
pub mod WrapLaws
pub mod BlockRunLaws
