-- The laws of targets.
pub mod TargetLaws
pub mod AimLaws
pub mod LandLaws
pub mod RuleLaws
pub mod OpenLaws
pub mod LiftLaws
pub mod Wrong
