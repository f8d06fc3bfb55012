pub mod Putting
pub mod Terms
pub mod Lefts
pub mod Roots
pub mod Rules
