pub mod Record
pub mod Keys
pub mod Calls
pub mod Inner
pub mod Words
pub mod Personalise
