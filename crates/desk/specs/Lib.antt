pub mod Desk
pub mod Check
pub mod Wrap
