pub mod Kept
pub mod Closed
pub mod Defaults
pub mod Living
pub mod Making
pub mod Written
pub mod Pools
