pub mod Ranges
pub mod Lent
pub mod BoundsCall
pub mod BoundsDemands
pub mod Sentences
