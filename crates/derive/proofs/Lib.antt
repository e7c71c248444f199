pub mod Laws
pub mod PadLaws
pub mod MacLaws
