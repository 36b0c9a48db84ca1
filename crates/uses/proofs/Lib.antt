-- Laws on uses.
pub mod EitherLaws
pub mod RowUseLaws
pub mod KindNames
pub mod FoundUses
pub mod BarredLaws
