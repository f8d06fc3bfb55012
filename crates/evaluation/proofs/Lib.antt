pub mod Gives
pub mod Asks
pub mod Rounding
