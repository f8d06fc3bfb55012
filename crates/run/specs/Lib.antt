pub mod Running
pub mod Sourced
