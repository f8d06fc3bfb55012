pub mod Occurrences
pub mod KindLaws
