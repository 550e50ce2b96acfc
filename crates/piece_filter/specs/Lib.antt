pub mod Puts
pub mod Pieces
pub mod PiecesLaws
pub mod PiecesCalls
pub mod PieceRuns
pub mod Answering
pub mod AnsweringLaws
