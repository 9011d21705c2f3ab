pub mod Entries
pub mod Lookups
pub mod Lines
pub mod Missing
pub mod Texts
pub mod Nicks
pub mod Dashes
mod Bits
mod Numbered
mod Called
mod Spelling
