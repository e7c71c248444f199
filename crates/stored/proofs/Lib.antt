pub mod FormLaws
pub mod LentLaws
pub mod ReadLaws
pub mod UnfitLaws
