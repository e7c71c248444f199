pub mod Hash
pub mod States
pub mod Ahead
