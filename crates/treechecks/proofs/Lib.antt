pub mod TreeValues
