pub mod Chains
pub mod Check
pub mod Kinds
pub mod Marks
pub mod Running
