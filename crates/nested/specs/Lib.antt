pub mod Nested
pub mod Flatten
pub mod TreeRefusals
pub mod NestedReading
pub mod Meaning
pub mod FlattenCall
pub mod FlattenDemands
pub mod Sentences
