pub mod Wholes
pub mod Bars
pub mod Products
pub mod Texts
