pub mod Sessions
pub mod Names
pub mod Runs
