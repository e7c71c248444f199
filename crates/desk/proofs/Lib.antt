pub mod DeskLaws
pub mod ScriptLaws
pub mod CheckLaws
