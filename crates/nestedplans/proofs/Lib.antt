pub mod Reading
pub mod Samples
pub mod WrongFlattenings
pub mod Plans
