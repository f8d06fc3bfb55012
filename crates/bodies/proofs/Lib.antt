pub mod Sizes
pub mod Loops
