pub mod Ours
pub mod Unreadable
pub mod Pieces
pub mod Calls
pub mod NoOther
pub mod Cases
