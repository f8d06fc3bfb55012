pub mod MetLaws
pub mod CheckLaws
