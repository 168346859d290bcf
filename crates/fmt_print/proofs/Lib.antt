pub mod Checks
pub mod Folds
pub mod Passes
pub mod Shorter
pub mod Units
pub mod Words
