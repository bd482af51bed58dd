pub mod Apart
pub mod Behind
pub mod Blocks
pub mod Drawing
pub mod Ending
pub mod Exits
pub mod Named
pub mod Plainly
