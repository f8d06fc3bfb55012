pub mod Report
pub mod Written
