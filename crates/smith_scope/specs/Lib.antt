pub mod Kept
pub mod Nest
pub mod Parts
pub mod Positions
