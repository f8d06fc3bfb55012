pub mod Samples
pub mod Plans
