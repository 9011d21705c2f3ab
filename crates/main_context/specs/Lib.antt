pub mod Dues
pub mod Attached
pub mod Priorities
pub mod Places
pub mod Order
pub mod Moments
