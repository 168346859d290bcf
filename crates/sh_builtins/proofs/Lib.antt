pub mod Written
pub mod Joins
