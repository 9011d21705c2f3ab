pub mod Attached
pub mod Connected
pub mod ConnectedCode
pub mod Meanings
pub mod SignalLists
pub mod Raised
pub mod Transfers
