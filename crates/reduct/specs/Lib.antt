pub mod Filling
pub mod Masks
