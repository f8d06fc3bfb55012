pub mod BeginCall
pub mod BeginDemands
pub mod Copying
pub mod Sentences
