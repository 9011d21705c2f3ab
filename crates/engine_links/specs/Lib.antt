pub mod Linked
pub mod Rows
pub mod Steps
