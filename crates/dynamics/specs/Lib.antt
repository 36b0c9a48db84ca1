-- The run rules (LANGUAGE 4): values, the store, and what each kind of term does.
pub mod Values
pub mod Store
pub mod Encode
pub mod Locate
pub mod Drop
pub mod Signed
pub mod SumEnds
pub mod Run
pub mod Boxes
pub mod Faults
pub mod Answers
pub mod Readings
