pub mod IdleProofs
pub mod Resting
