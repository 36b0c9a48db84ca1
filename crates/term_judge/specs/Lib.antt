-- What judging one term answers.
pub mod JudgeRows
