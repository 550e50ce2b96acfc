pub mod FrameState
pub mod Gaining
pub mod Reporting
pub mod Lines
pub mod Filling
pub mod Filtering
