pub mod MappedLists
mod RegisterLists
mod Tables
pub mod Filled
pub mod BindNames
pub mod Methods
