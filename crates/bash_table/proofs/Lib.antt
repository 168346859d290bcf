pub mod Levels
pub mod Turning
