pub mod LeftPeers
pub mod FinishedPeers
