pub mod QuietRuns
pub mod Lists
pub mod Parts
pub mod Depths
pub mod WorkedParts
