pub mod Copy
pub mod Settings
