pub mod Values
pub mod Digits
pub mod Parsing
pub mod Frames
pub mod Reader
pub mod Faults
