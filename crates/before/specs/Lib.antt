pub mod Base
pub mod Statement
pub mod Cases
pub mod ZerosAfter
pub mod ShortCards
