pub mod Checks
pub mod LeftOut
pub mod Demands
