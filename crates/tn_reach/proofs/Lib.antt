pub mod Boards
pub mod Chained
pub mod Finding
pub mod Rounding
pub mod Runs
pub mod Stops
