pub mod RunPeersProofs
