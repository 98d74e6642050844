pub mod Messages
pub mod Refused
pub mod PlainWires
pub mod Smallest
pub mod Bags
pub mod CountWires
