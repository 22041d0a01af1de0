pub mod Profile
pub mod Swarm
