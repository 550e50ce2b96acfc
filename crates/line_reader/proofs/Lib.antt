pub mod Fronts
pub mod Going
pub mod Skipping
pub mod Trimming
