pub mod ByIndex
pub mod Freeing
pub mod Kept
pub mod Numbers
pub mod Pairing
pub mod Untouched
