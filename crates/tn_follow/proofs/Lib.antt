pub mod Apart
pub mod Each
pub mod Ending
pub mod Following
pub mod Others
pub mod Places
pub mod Staying
pub mod Taking
