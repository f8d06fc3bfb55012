pub mod PlainPart
