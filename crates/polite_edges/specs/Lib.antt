pub mod Deeds
pub mod Histories
pub mod Layout
pub mod Runs
pub mod VertexLog
