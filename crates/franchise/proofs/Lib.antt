pub mod Making
pub mod Marking
pub mod Counting
