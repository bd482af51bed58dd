pub mod Kept
pub mod Left
pub mod Moves
pub mod Places
pub mod Rest
pub mod RouterView
pub mod Rows
