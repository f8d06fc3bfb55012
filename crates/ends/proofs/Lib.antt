-- The laws of reading a rule with lent ranges.
pub mod MaskLaws
pub mod RangeLaws
pub mod TaskLaws
pub mod FreeLaws
pub mod ScaleLaws
