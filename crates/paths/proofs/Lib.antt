-- Laws on the search.
pub mod EveryRoot
pub mod LeavingLaws
pub mod StepLaws
pub mod SearchLaws
pub mod WholeLaws
pub mod GatherLaws
