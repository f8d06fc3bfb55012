pub mod Renews
