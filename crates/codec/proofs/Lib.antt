pub mod Asking
pub mod Fetched
pub mod Playing
pub mod Refusing
pub mod Stepping
pub mod Handover
pub mod Turning
pub mod Scanning
