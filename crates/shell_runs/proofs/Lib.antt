pub mod Combined
pub mod Monotone
pub mod Outcomes
pub mod Unrolled
