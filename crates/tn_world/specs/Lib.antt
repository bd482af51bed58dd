pub mod Joint
pub mod Plays
pub mod Sited
