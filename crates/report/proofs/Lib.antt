pub mod WritingLaws
pub mod Entries
