pub mod RowLaws
pub mod Rounds
pub mod StepLaws
pub mod RowsDetermined
pub mod StepDetermined
pub mod ClosingLaws
