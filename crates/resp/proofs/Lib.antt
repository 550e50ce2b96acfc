pub mod Keys
pub mod Deleting
pub mod Closing
