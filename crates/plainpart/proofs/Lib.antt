pub mod Prefix
pub mod PlainLaws
