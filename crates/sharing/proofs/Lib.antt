pub mod Sharings
pub mod Firsts
pub mod NamesDetermined
