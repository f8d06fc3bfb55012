pub mod RulesEnd
pub mod TreesPutting
pub mod Pieces
pub mod Calls
