-- Laws on whole scripts in bytes.
pub mod ScriptLaws
pub mod MarkLaws
pub mod WholeLaws
