pub mod Tabled
pub mod Entries
pub mod Laid
