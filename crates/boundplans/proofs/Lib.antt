pub mod Samples
pub mod WrongBounds
