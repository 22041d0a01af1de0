pub mod Changing
pub mod OwnLimits
pub mod Wrong
