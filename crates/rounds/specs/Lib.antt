pub mod Constants
pub mod Sums
pub mod Rounds
pub mod Keys
pub mod Lent
