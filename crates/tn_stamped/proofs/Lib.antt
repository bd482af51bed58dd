pub mod Closing
pub mod Entries
pub mod Fitting
pub mod Giving
pub mod Growing
pub mod Joined
pub mod Pairing
