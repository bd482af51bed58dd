pub mod Clean
pub mod Counts
pub mod Memory
pub mod Rose
pub mod Standard
pub mod Took
pub mod Whole
pub mod Wrote
