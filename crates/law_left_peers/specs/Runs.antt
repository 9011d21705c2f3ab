pub mod RunPeers
