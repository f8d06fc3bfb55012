pub mod ReportLaws
pub mod FoundedLaws
