pub use Rattle.frames.proofs.FrameSteps
pub mod OperandLists
pub mod Each
pub mod Members
pub mod Stopping
