pub mod NamedPeers
