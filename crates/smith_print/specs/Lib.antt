-- What is printed of components.
pub mod Alone
pub mod Components
pub mod CoreTypes
pub mod Externs
pub mod Lines
pub mod Offsets
pub mod Passing
pub mod Printing
pub mod Spaces
pub mod Types
pub mod Values
pub mod Words
