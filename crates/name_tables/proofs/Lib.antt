pub mod Lookups
pub mod Rows
pub mod Numbers
pub mod Inherited
pub mod Adding
