pub mod Law
pub mod Machine
pub mod Shows
