pub mod Commands
pub mod Fits
pub mod Same
pub mod AloneSteps
