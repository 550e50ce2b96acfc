pub mod Answers
pub mod Large
pub mod Sending
pub mod Texts
