pub mod Deeds
pub mod Puts
mod Rest
