-- Laws on the bytes of rows.
pub mod OutputLaws
