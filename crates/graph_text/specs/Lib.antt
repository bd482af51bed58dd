pub mod Graph
pub mod Line
pub mod Text
pub mod Draft
pub mod Flits
pub mod Rows
pub use Rattle.tn_text.specs.Gives
