pub mod Fronts
pub mod Escapes
pub mod Pieces
pub mod Constants
pub mod Fields
pub mod Printing
pub mod Check
pub mod Echoing
