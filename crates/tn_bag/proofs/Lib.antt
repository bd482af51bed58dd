pub mod Arrivals
pub mod Copying
pub mod Loops
pub mod Made
pub mod Spelled
pub mod Waits
