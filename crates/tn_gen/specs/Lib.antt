pub mod Drawn
pub mod Head
pub mod Job
