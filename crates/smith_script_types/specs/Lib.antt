pub mod Declaring
pub mod Fronts
pub mod Places
pub mod Says
pub mod Tables
