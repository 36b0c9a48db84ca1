-- What `run` and `call` answer (LANGUAGE 6.6, 6.8), and safety (7.4).
pub mod Running
pub mod Calling
pub mod Accepted
pub mod Larger
pub mod Parts
