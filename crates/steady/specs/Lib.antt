pub mod Estimate
pub mod Short
pub mod Steps
pub mod Strides
