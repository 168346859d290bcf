mod PartViews
mod Counting
mod Exports
mod Loops
mod ValueViews
mod Gathering
