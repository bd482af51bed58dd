pub mod Crew
pub mod Tries
