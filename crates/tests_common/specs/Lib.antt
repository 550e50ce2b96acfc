pub mod Header
pub mod Halves
