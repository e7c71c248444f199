pub mod DataLaws
pub mod AnswerLaws
