-- What the parts of the writer's code answer.
pub mod OutputParts
