pub mod Judging
pub mod Marks
