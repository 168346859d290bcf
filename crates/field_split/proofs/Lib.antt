pub mod Shorter
pub mod Loops
pub mod Sharing
pub mod Between
