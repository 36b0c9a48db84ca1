-- The safety of accepted scripts; larger sets of limits; the examples.
pub mod Safety
pub mod Larger
pub mod Examples
