-- Laws on the two blocks.
pub mod RowLaws
pub mod KeptLaws
pub mod ChoiceLaws
