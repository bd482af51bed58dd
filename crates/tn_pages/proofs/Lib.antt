pub mod Bytes
pub mod Counts
pub mod Made
pub mod Same
pub mod Start
pub mod Stocks
