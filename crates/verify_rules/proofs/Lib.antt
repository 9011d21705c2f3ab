mod FirstFaults
mod InstructionSteps
mod OpenBrackets
mod BlockBrackets
mod PairedEnds
pub mod Counts
pub mod PathSteps
pub mod Judged
