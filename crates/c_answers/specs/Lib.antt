-- Answers in C's form, field by field, and what their number tells.
pub mod Answers
pub mod Numbers
