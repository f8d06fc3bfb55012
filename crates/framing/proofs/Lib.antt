pub mod FramingLaws
