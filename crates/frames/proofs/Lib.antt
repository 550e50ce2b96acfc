pub mod Packs
pub mod PieceRuns
pub mod Unpacks
