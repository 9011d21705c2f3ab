pub mod PeerNames
