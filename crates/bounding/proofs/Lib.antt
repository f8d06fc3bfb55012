-- The laws of the call bounds.
pub mod CallLaws
