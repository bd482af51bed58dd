pub mod Log
pub mod Reading
pub mod Summary
pub mod TileDeeds
pub mod Waiting
