pub mod Flags
pub mod Kept
pub mod Lists
pub mod Marks
pub mod Masks
pub mod Owed
pub mod Rings
pub mod Unused
