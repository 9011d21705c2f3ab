mod IdleNumbers
pub mod LookUps
pub mod Pieces
pub mod ReportLines
