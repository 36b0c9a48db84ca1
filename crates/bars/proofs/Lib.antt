-- Laws on who holds a borrow.
pub mod HeldLaws
pub mod LeadingLaws
pub mod BarLaws
