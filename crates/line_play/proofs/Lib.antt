pub mod Playing
pub mod WritingLines
