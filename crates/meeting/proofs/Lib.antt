pub mod Apart
pub mod Wrapped
pub mod Checked
pub mod Both
