pub mod Messages
pub mod Lines
pub mod Cards
pub mod Old
