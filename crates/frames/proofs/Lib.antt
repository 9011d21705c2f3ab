pub mod RegisterReads
pub mod FrameRegisters
pub mod FrameSteps
pub mod MachineSteps
pub mod FromRegisters
