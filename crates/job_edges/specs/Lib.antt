pub mod JobLayout
pub mod Laws
