pub mod Listing
pub mod Ordered
pub mod Normal
pub mod Normalizes
pub mod Sentences
pub mod NormalizeDemands
