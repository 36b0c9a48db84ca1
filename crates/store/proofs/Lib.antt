-- Laws on the lent numbers.
pub mod Again
pub mod WordLaws
pub mod LocateLaws
pub mod CellLaws
