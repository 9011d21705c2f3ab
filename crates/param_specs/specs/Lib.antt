pub mod Flags
pub mod View
pub mod Table
pub mod Validation
pub mod Overriding
pub mod SlotRows
