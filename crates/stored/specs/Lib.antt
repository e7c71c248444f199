pub mod Form
pub mod Lent
