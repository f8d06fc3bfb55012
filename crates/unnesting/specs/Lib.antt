pub mod Unnests
