pub mod Cuts
pub mod Greedy
pub mod Least
pub mod Closing
pub mod Spelling
pub mod Parts
pub mod Splits
