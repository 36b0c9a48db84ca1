-- What the readers of operands and terms answer.
pub mod OperandParts
