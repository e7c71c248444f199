pub mod BlockLaws
pub mod AnswerLaws
pub mod CounterLaws
pub mod Inverse
pub mod FoundLaws
