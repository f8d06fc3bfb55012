pub mod Pairs
pub mod InnerLaws
pub mod LeafLaws
pub mod SizeLaws
