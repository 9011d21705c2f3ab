pub mod Numbered
pub mod Each
pub mod InOrder
pub mod Chains
pub mod Escapes
pub mod Members
pub mod Values
pub mod Sections
