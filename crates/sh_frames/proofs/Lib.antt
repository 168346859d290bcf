pub mod Sequence
pub mod WordLaws
pub mod CommandLaws
pub mod ShellLaws
pub mod LoopLaws
