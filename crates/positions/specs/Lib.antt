pub mod Positions
pub mod Kinds
