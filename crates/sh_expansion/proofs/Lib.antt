mod Orders
mod Positions
