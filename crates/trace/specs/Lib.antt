pub mod Traced
pub mod Feeding
pub mod Inner
