pub mod Played
pub mod WrittenLines
