pub mod Entries
pub mod ValueProofs
pub mod ObjectProofs
pub mod RegisterProofs
pub mod InstructionProofs
pub mod TaskProofs
pub mod StepProofs
pub mod RunProofs
