pub mod FirstFaults
pub mod Cycles
pub mod CappedNumbers
