pub mod Changes
pub mod Limits
pub mod Makes
pub mod Prints
pub mod Reduces
pub mod Rules
pub mod Scripts
