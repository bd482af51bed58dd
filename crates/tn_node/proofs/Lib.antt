pub mod Agreed
pub mod Changed
pub mod Given
pub mod PortLaws
