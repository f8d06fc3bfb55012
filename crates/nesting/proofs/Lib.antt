pub mod Sizes
pub mod Ranges
pub mod Taking
pub mod Surveys
pub mod Loading
