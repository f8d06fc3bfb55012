pub mod Bits
pub mod WordBits
pub mod Joins
pub mod Nexts
pub mod Examples
