pub mod Ending
pub mod Outcome
pub mod OutcomeLaws
pub mod Streams
pub mod TakenIn
pub mod TargetLaws
pub mod Words
