pub mod Number
pub mod Places
pub mod Registers
pub mod Arguments
pub mod Reading
pub mod Statement
pub mod Text
