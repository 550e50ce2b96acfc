pub mod Passing
pub mod Coming
pub mod DecodingCalls
pub mod DecodeRuns
pub mod Ending
pub mod EncodingCalls
pub mod EncodeRuns
