pub mod Written
pub mod Puts
pub mod Forms
pub mod Preparing
