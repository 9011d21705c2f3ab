pub mod Due
pub mod Kept
pub mod Made
