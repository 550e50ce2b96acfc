pub mod Asking
pub mod Inside
pub mod Spans
