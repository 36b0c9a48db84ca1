-- The line of an answer (LANGUAGE 6.11), and the program's report.
pub mod Line
pub mod ExampleLines
pub mod Texts
