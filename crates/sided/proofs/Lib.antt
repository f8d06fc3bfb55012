pub mod Sided
pub mod Amounts
pub mod SideLaws
