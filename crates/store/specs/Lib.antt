-- What the functions on the lent store answer.
pub mod Words
pub mod StoreParts
