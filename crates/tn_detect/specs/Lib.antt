pub mod DetectorView
pub mod Notes
pub mod Reports
pub mod Rows
pub mod Told
