pub mod Calls
pub mod Putting
