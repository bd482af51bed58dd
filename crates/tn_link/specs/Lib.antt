pub mod LinkRows
pub mod LinkView
