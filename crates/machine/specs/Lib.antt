-- What `run_unchecked` answers (LANGUAGE 6.7).
pub mod Outcomes
pub mod ScriptParts
