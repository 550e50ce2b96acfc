pub mod Answers
pub mod Watched
pub mod Words
