pub mod Bytes
mod Newlines
pub mod Runs
pub mod Writes
