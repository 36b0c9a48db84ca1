-- What the functions of single terms answer.
pub mod Parts
pub mod LeafParts
pub mod Skip
