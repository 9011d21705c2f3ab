pub mod DetailProofs
pub mod InstructionProofs
pub mod EventProofs
pub mod Whole
