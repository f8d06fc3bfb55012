-- The laws of a file with lent ranges.
pub mod Fits
pub mod LentLaws
pub mod LentGiven
pub mod Ends
pub mod BoundsExist
pub mod Narrowing
pub mod Single
pub mod Stables
pub mod Calls
pub mod Sentences
