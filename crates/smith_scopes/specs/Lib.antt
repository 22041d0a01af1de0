pub mod Naming
pub mod NodeScopes
pub mod Nodes
pub mod Rows
pub mod Scopes
