pub mod Equals
pub mod IsScript
pub mod Preceding
pub mod Refusals
pub mod Saying
pub mod StandIns
