pub mod Chosen
pub mod Marking
pub mod Naming
pub mod OccupiedScopes
pub mod Plain
pub mod PlainTrees
pub mod Rows
pub mod Stack
