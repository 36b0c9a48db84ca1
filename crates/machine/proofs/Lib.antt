-- Laws on whole scripts.
pub mod FitLaws
pub mod ScriptLaws
