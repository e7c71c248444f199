pub mod FeedLaws
pub mod TraceLaws
pub mod FillLaws
pub mod KeptLaws
