pub mod Standing
pub mod FlatTrees
pub mod FlatNodes
pub mod FlatValues
pub mod FlatSizes
pub mod LeafTests
pub mod FlatLaws
pub mod Steps
