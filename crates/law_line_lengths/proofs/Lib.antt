pub mod LengthProofs
pub mod GrowthProofs
pub mod NameProofs
pub mod InstructionLines
pub mod TaskLines
pub mod StepLines
pub mod DispatchProofs
