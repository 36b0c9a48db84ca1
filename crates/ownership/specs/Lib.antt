-- What `check` answers (LANGUAGE 6.5).
pub mod Answers
