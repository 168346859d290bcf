pub mod Comments
pub mod Digits
pub mod Escapes
pub mod Joins
pub mod Kept
pub mod Redirections
pub mod Alike
pub mod Backquotes
