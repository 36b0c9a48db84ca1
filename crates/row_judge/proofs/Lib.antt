-- Laws on term rows.
pub mod RowSpans
pub mod DueBlock
pub mod LeftOver
