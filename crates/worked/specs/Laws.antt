pub mod Gathering
pub mod Middles
pub mod WorkedFormats
pub mod WorkedPair
pub mod WorkedPeers
pub mod WorkedSources
pub mod WorkedTurn
