pub mod LayLaws
pub mod LentLaws
pub mod WordLaws
pub mod FormLaws
pub mod Cut
