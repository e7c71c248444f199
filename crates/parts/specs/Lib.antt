pub mod Forms
pub mod Lent
pub mod Statement
