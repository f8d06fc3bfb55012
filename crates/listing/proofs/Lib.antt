pub mod ListLaws
pub mod Example
