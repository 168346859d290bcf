mod Equations
mod Turns
mod Sizes
