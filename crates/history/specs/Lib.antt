pub mod Run
pub mod Demand2
pub mod Ledger
pub mod Demand3
pub mod Demands
pub mod Examples
pub mod Cases
