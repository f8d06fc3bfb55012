pub mod TreeFiles
pub mod Samples
pub mod TwoBytes
