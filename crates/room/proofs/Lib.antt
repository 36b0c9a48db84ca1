-- The theorems on runs and calls.
pub mod TreeRows
pub mod RunLaws
pub mod Numbers
pub mod RunSafe
pub mod CallLaws
pub mod CallSafe
pub mod AcceptedSafe
pub mod Larger
