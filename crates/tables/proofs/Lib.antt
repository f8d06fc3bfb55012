pub mod EntryLaws
pub mod TableLaws
pub mod LaidLaws
