pub mod Tokens
pub mod LineData
