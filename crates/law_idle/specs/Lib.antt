pub mod Resting
pub mod Idle
