pub mod Spans
pub mod Filling
