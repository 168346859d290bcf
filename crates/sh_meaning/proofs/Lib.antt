pub mod Grown
pub mod Larger
pub mod Simples
pub mod Steps
pub mod WholeRuns
