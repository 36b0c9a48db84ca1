-- What the public functions answer (LANGUAGE 6.2 to 6.4).
pub mod Outcomes
