pub mod Allowed
pub mod LimitsFit
pub mod Loops
pub mod ModuleFits
pub mod Needed
pub mod Passing
pub mod ReadableFit
