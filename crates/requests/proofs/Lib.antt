pub mod Answering
pub mod Coming
pub mod Large
pub mod Interrupted
pub mod Reading
pub mod Sending
pub mod Turns
pub mod Names
