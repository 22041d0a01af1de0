pub mod Answers
pub mod Contained
pub mod Shows
pub mod Validities
pub mod Verdicts
pub mod Modules
pub mod Findings
pub mod ModuleWalk
