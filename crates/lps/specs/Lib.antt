pub mod Vectors
pub mod Inner
