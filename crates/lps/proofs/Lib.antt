pub mod Each
pub mod Linear
pub mod Bytes
pub mod Words
pub mod Columns
