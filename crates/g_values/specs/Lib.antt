pub mod View
pub mod Naming
pub mod Reading
pub mod Arithmetic
