pub mod Runs
pub mod PlayReading
pub mod PlayWriting
pub mod CopyKnown
pub mod FlushKnown
pub mod Unwrapped
