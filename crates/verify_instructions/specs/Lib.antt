pub mod Arguments
pub mod CodeSteps
pub mod Faults
