pub mod BeginLaws
pub mod BeginDetermined
pub mod SearchSentences
pub mod SearchTotal
