pub mod LineLaws
pub mod SaidLaws
