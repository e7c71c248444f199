pub mod WrapLaws
pub mod Return
pub mod CodeLaws
pub mod AnswerLaws
