-- Where a place leads, as the code searches.
pub mod Steps
