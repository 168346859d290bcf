mod BashCommands
mod CommandLaws
pub mod Cuts
pub mod Ending
pub mod FormLaws
pub mod Inputs
mod LineLaws
pub mod LineTexts
pub mod Loops
mod Lowered
mod Meaning
mod PlainBytes
pub mod Printable
pub mod Reporting
pub mod Rest
mod ShCommands
mod ShItems
mod ShNames
pub mod ShNodes
mod ShWords
mod Sizes
mod Spelled
mod Tools
pub mod Translating
pub mod Trees
mod Variables
pub mod Views
mod WordLaws
