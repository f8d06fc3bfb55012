pub mod InnerBytes
pub mod NodeEnds
pub mod Reading
