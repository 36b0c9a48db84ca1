-- What the table says in the rules' terms, and what the functions on it answer.
pub mod Masks
pub mod Chains
pub mod Table
pub mod Verdicts
