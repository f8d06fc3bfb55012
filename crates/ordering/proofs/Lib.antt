pub mod BodyLaws
pub mod OrderedAlready
pub mod TermLaws
pub mod FieldLaws
pub mod ValueLaws
pub mod FileLaws
pub mod Meant
