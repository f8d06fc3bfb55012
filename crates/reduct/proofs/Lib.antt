pub mod Ranges
pub mod Fills
pub mod MaskLaws
pub mod AssignedLaws
