pub mod Ascending
pub mod Level
pub mod Looking
