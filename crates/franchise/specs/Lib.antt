pub mod Marks
pub mod Weights
pub mod Polls
pub mod Tables
pub mod Refused
pub mod Arithmetic
pub mod Lawful
