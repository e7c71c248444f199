pub mod Length
pub mod Command
pub mod Rules
pub mod Shape
pub mod Answers
