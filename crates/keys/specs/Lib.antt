pub mod CardNumber
pub mod Seeds
pub mod Answers
