pub mod BracketSteps
pub mod Faults
pub mod PairedEnds
pub mod Parts
pub mod RuleFaults
pub mod Places
