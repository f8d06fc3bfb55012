pub mod Starred
pub mod StarredChecks
pub mod Shared
pub mod IdlePlans
pub mod Arrivals
