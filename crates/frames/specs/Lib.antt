pub mod InputFault
pub mod Pack
pub mod Packing
pub mod PackingLaws
pub mod Unpack
pub mod Unpacking
pub mod UnpackingLaws
pub mod Words
