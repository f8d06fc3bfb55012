pub mod Int
pub mod Ints
pub mod Examples
