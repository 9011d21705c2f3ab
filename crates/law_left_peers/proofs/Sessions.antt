pub mod LeftProofs
pub mod BrokenProofs
pub mod FinishedProofs
