pub mod Fields
pub mod Reading
pub mod Names
pub mod Cuts
