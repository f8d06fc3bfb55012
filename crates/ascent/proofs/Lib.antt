pub mod PlaceLaws
pub mod CutLaws
pub mod ReductLaws
pub mod LookLaws
pub mod ValueLaws
pub mod LevelLaws
pub mod ClimbLaws
