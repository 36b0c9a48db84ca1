-- That the number of an answer in C's form tells whether there is an answer.
pub mod NumberTells
