pub mod Meanings
pub mod Answers
pub mod Unchanged
pub mod Samples
pub mod WrongForms
