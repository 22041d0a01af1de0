pub mod NearMisses
pub mod Samples
