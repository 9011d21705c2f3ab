pub mod Told
pub mod Entries
pub mod Lines
pub mod Writing
