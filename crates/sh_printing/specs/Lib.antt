pub mod Delimiters
mod Examples
pub mod Marks
pub mod Printable
pub mod Printing
pub mod Spellable
pub mod Sums
