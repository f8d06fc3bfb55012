pub mod RuleLaws
pub mod ComponentLaws
