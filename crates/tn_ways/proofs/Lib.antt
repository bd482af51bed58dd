pub mod Coming
pub mod Counting
pub mod Hops
pub mod Law
pub mod Leaving
pub mod Taken
pub mod Tests
