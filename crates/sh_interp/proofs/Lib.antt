mod Stacks
mod Values
mod Prefixes
mod Firsts
mod ValueViews
mod Turning
mod Heads
mod Valued
