pub mod View
pub mod Outermost
pub mod Reads
