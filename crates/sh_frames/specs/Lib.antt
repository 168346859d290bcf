pub mod Payloads
pub mod Frames
pub mod Turns
pub mod Exits
