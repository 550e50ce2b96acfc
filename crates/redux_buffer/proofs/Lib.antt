pub mod Turning
pub mod Walks
pub mod Ranges
pub mod Loans
pub mod Cleared
pub mod Written
pub mod Steps
pub mod Sending
