pub mod Rows
pub mod Exec
