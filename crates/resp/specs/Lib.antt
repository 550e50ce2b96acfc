pub mod Clients
pub mod Commands
pub mod Numbers
pub mod Replies
pub mod Sessions
pub mod Stored
pub mod Waiting
