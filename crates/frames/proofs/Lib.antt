pub mod PartLaws
pub mod FrameLaws
pub mod MasterLaws
