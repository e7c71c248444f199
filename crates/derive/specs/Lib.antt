pub mod Hmac
pub mod Derivation
pub mod Started
pub mod Macing
pub mod Kept
pub mod Answers
