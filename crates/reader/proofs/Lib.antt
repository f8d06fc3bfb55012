pub mod Published
pub mod ReadLaws
