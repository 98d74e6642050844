mod Holding
mod Counted
mod Happening
