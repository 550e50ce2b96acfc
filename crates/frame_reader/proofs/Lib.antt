pub mod Lengths
pub mod Pieces
pub mod Slowly
