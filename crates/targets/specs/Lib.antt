pub mod Targets
pub mod Aims
