pub mod Code
pub mod Answers
pub mod Coding
