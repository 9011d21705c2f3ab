pub mod ClassHandlers
pub mod ConnectedCodes
pub mod ConnectionKeys
pub mod Covered
pub mod Groups
pub mod MeantLists
pub mod RaisedByParts
pub mod SignalLists
pub mod TransferLists
pub mod GraphChannels
mod NoFaults
mod PairEnds
mod Sketched
mod Starts
