pub mod Numbers
pub mod Same
pub mod Digits
pub mod Lengths
pub mod Laid
