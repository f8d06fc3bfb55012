pub mod Unchanged
pub mod Samples
