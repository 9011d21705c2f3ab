pub mod Lent
pub mod Slotted
pub mod Making
pub mod Calls
pub mod Heaps
