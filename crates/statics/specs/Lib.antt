-- The ownership rules (LANGUAGE 3): links, places, environments, and the rule of each kind of term.
pub mod Links
pub mod Places
pub mod Environment
pub mod Follow
pub mod Uses
pub mod Bars
pub mod Choice
pub mod Rules
pub mod Judge
pub mod ErrorScripts
pub mod LastUseScripts
pub mod Neat
pub mod Met
pub mod Closure
pub mod Roots
