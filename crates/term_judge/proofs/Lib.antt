-- Laws on one term.
pub mod JudgeLaws
pub mod TreeNames
pub mod WrittenLaws
pub mod LaterLaws
pub mod AroundLaws
pub mod LeafLaws
