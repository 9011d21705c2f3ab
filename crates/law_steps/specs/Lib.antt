pub mod Kept
pub mod Instructed
pub mod Tasked
pub mod Served
