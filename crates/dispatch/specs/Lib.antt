pub mod Dispatch
pub mod Behind
pub mod Statement
pub mod Cases
