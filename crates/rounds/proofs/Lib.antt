pub mod SumLaws
pub mod LentLaws
pub mod KeyLaws
pub mod First
