-- Laws on the notes, and on the states of variables that are stored.
pub mod NoteLaws
pub mod StateLaws
pub mod StoreLaws
pub mod DeclareLaws
