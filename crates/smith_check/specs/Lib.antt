pub mod Fragments
pub mod Judgement
pub mod Judges
pub mod Preceding
pub mod Stepping
pub mod Taken
