mod ArrayExamples
pub mod Arrays
mod BraceExamples
pub mod Braces
pub mod Bracing
pub mod Cells
mod CommandExamples
pub mod Commands
pub mod Effects
mod KindExamples
pub mod Kinds
pub mod Known
pub mod Lists
pub mod Literals
pub mod Names
pub mod Refusals
pub mod Refused
pub mod Sites
mod WordExamples
mod Worked
pub mod Written
