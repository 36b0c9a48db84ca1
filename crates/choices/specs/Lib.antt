-- What the functions of a choice answer.
pub mod Kept
