-- Laws on writes.
pub mod AssignLaws
