pub mod Kinds
pub mod Answers
pub mod Runs
pub mod Fronts
pub mod Delimiters
pub mod Escapes
