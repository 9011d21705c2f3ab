pub mod Values
pub mod Play
pub mod PlayLaw
pub mod Runs
pub mod Stuck
