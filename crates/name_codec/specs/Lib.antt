pub mod Encoding
pub mod Reserved
