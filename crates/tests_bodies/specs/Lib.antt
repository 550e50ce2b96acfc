pub mod DotStuffed
pub mod DotStuffedLaws
pub mod Lines
pub mod Refused
