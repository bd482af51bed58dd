pub mod Crossings
pub mod Listed
pub mod Rests
pub mod Sites
pub mod Standing
pub mod Steps
pub mod Visits
