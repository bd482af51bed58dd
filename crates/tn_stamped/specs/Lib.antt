pub mod Doing
pub mod Placed
pub mod Placing
