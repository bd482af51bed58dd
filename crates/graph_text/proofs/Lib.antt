pub mod Flits
pub mod Grows
pub mod LineFits
pub mod Saying
pub mod Sound
