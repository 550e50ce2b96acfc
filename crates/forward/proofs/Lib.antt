mod Walks
pub mod Between
pub mod Moving
pub mod Turning
pub mod Forwarding
pub mod Forwarded
pub mod Said
