pub mod FaultProofs
pub mod TurnProofs
pub mod CapProofs
pub mod ReckonProofs
