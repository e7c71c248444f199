pub mod AnswerLaws
pub mod Inverse
pub mod CodeLaws
pub mod CodingLaws
