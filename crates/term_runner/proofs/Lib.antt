-- Laws on single terms.
pub mod LeafLaws
pub mod AroundLaws
pub mod RowLaws
pub mod SkipLaws
