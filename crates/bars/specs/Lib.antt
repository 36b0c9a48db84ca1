-- Which borrows count; who is named later, and who may lead to a root.
pub mod Held
pub mod Leading
