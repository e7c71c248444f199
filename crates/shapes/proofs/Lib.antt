pub mod LengthLaws
pub mod ShapeLaws
pub mod AnswerLaws
pub mod Examples
pub mod CommandLaws
pub mod ListedLaws
