pub mod Apart
pub mod Elsewhere
pub mod Follow
pub mod Parts
pub mod Printed
