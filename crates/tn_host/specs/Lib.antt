pub mod HostView
pub mod Rows
pub mod Script
