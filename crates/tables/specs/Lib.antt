pub mod Tables
pub mod Matrix
