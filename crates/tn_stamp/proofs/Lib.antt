pub mod Merged
pub mod Rising
pub mod Shorts
pub mod Taking
