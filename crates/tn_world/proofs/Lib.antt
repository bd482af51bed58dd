pub mod Calm
pub mod Pairs
pub mod Places
