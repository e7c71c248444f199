pub mod Rows
pub mod Rounds
pub mod Octets
pub mod Inverse
