-- What judging a place, a let and an answer gives.
pub mod RuleAnswers
