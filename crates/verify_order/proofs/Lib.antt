mod Lists
mod Kept
mod Steps
pub mod Sums
pub mod Passing
pub mod Handing
