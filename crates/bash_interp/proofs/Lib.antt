pub mod Expanding
pub mod Steps
