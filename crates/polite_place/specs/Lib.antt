pub mod Order
pub mod Outs
pub mod Roster
pub mod Scan
pub mod Seats
