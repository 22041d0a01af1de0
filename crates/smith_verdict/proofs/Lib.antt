pub mod Members
pub mod Offsets
pub mod Walked
pub mod WellFormed
mod Judging
mod Loops
pub mod ModuleWalk
pub mod Answering
pub mod Answered
pub mod Generated
pub mod GeneratedModules
pub mod GeneratedNames
pub mod GeneratedTrees
pub mod GeneratedTypes
pub mod GeneratedValues
