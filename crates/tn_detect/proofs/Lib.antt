pub mod Summed
pub mod Sums
