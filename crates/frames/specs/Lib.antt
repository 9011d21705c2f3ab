pub mod Computing
pub mod Operand
pub mod FrameView
