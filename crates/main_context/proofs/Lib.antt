pub mod Joined
pub mod Integers
pub mod Least
pub mod First
pub mod LeastPriority
mod Computed
pub mod PlaceOrder
pub mod Ranked
pub mod Order
pub mod Kept
pub mod Turns
pub mod Foremost
