pub mod Holders
pub mod Endings
pub mod Questions
