pub mod Ancestry
pub mod Parts
pub mod BindNames
pub mod Views
pub mod Methods
