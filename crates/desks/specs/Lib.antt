pub mod Run
pub mod Book
pub mod Demanded
pub mod Sentences
