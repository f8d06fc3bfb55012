pub mod Sides
pub mod Reached
