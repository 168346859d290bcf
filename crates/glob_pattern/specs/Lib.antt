pub mod Pieces
pub mod Lengths
pub mod Steps
pub mod Signs
pub mod Brackets
pub mod Reading
pub mod Faults
pub mod Paths
