pub mod Page
pub mod Running
