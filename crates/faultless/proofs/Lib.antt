pub mod TermLaws
pub mod BodyLaws
