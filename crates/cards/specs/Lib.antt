pub mod Cards
pub mod Inner
