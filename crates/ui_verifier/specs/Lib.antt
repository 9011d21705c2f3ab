pub mod Bounds
pub mod Cycles
pub mod Large
pub mod Texts
pub mod Verdicts
pub mod ByChannel
pub mod NamedSources
