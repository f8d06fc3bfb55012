pub mod Determined
pub mod Total
pub mod Listed
pub mod Shown
pub mod Demanded
pub mod Unmet
pub mod IdleChecks
