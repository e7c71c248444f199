pub mod Written
pub mod Turn
pub mod Same
