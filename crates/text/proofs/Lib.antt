pub mod OutputLaws
pub mod DecimalLaws
pub mod Digits
