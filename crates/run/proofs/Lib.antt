pub mod RunLaws
pub mod PastLaws
pub mod StepLaws
pub mod RaiseLaws
pub mod SolveLaws
pub mod StartLaws
