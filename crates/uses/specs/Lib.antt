-- What the functions on uses answer.
pub mod RowUses
pub mod RowPlaces
