pub mod StepCounts
pub mod QuietRunProofs
pub mod PartProofs
pub mod Paces
pub mod PaceProofs
pub mod DepthProofs
pub mod WorkedProofs
