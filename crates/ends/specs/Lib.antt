pub mod Ends
pub mod Freed
