pub mod NodeRules
