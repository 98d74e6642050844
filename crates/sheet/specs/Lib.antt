pub mod Kinds
pub mod WireKinds
pub mod Bytes
pub mod Entries
pub mod Headers
pub mod Faults
