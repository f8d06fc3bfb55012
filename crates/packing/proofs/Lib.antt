pub mod Bounds
pub mod Unpacked
