pub mod First
pub mod Joint
pub mod Meeting
pub mod Sites
pub mod Turning
pub mod Views
pub mod Visits
