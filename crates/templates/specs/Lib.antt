pub mod Grammar
pub mod Reading
pub mod Lent
pub mod Statement
