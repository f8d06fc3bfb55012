pub mod Shortfall
pub mod Asking
