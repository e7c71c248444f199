pub mod Data
pub mod Cryptogram
pub mod Answers
