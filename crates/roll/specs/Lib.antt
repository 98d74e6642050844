pub mod Views
pub mod Refused
