pub mod Examples
pub mod CardLaws
pub mod AnswerLaws
pub mod SeedLaws
pub mod IdnLaws
