pub mod Received
pub mod Reading
