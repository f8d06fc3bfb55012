pub mod TermLaws
pub mod FaultLaws
