pub mod Standing
pub mod Scanning
