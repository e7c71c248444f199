pub mod Laws
pub mod BlockLaws
pub mod PourLaws
pub mod AheadLaws
