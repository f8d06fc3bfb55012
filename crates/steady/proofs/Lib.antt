pub mod Ahead
pub mod Distances
pub mod Weights
pub mod Amounts
pub mod SteadyLaws
pub mod Machine
pub mod Estimates
pub mod Wrong
