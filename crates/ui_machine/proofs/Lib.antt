pub mod Mapped
pub mod Listed
pub mod Prefixes
pub mod Names
