pub mod Specs
pub mod SlotRows
pub mod Same
pub mod Lists
pub mod First
pub mod Within
pub mod Named
