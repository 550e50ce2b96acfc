pub mod PlayRoom
pub mod PlayReader
pub mod PlayWriter
pub mod WroteExactly
pub mod WriterPolicyLaws
