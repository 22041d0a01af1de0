pub mod Ascending
pub mod ByKind
pub mod Lists
pub mod ModuleSteps
pub mod OfferSteps
pub mod Offered
pub mod Parts
pub mod Places
