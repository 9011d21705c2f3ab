pub mod Counts
pub mod Columns
pub mod Laid
pub mod Ends
pub mod Links
pub mod Reckonings
pub mod Tables
pub mod Cycles
