-- The theorems on the check.
pub mod JudgedRows
pub mod CheckLaws
pub mod Accepted
