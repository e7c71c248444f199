pub mod Writing
pub mod Inner
pub mod Statement
