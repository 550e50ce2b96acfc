pub mod Packets
pub mod PacketsLaws
pub mod PacketsOut
pub mod PacketsOutLaws
