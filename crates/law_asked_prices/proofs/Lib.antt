pub mod AskedProofs
pub mod SumProofs
pub mod ReplyProofs
pub mod PeerProofs
pub mod MetProofs
