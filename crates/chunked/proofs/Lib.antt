mod Digits
pub mod Writing
mod Going
pub mod Framing
mod Written
mod Fields
