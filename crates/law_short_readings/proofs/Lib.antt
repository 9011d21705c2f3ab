pub mod ValueProofs
pub mod EventProofs
pub mod ListProofs
pub mod InstructionProofs
pub mod ProgramProofs
pub mod PropertyProofs
pub mod PlaceProofs
pub mod Whole
