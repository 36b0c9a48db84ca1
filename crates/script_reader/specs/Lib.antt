-- What the reader of a script, in its named form, answers.
pub mod Lent
