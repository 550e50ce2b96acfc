pub mod Head
pub mod Multipart
