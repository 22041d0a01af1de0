pub mod Allowed
pub mod Bytes
pub mod Fits
pub mod Smaller
pub mod Wanted
